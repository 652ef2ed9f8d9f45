-- A set of stations as sixteen bits, one for each station. Assumes nothing.
use Rattle.std.specs.Prelude.{ℕ, ◌^◌, Bool, cond, ◌&&◌, ◌==◌, nat_lt}
use Rattle.std.specs.Int.{bit_at}
use Rattle.registers.specs.Sets.{station_limit}

-- the stations whose bit is 1
unfoldable pub in_bits : ℕ → ℕ → Bool
in_bits bits station = nat_lt station station_limit && (bit_at bits station == 1)

-- the number whose only bit is the station's; 0 where the number is no station's
abbrev pub bit_of : ℕ → ℕ
bit_of station = cond (nat_lt station station_limit) (2 ^ station) 0
