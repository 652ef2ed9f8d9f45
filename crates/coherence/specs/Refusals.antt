-- The number of each refusal, and what it means in words. Assumes nothing.
use Rattle.std.specs.Prelude.{ℕ, List, codes}
use Rattle.coherence.specs.declared.refusal.Refusal.{Refusal}
use Rattle.coherence.specs.declared.refusal.Refusal.TheVariants.{Stations, Pages, Room, Memory, Station, Page, FullQueue, NothingWaits, NoRule, NoSpace, Unfinished}

abbrev pub refusal_number : Refusal → ℕ
refusal_number Stations = 1
refusal_number Pages = 2
refusal_number Room = 3
refusal_number Memory = 4
refusal_number Station = 5
refusal_number Page = 6
refusal_number FullQueue = 7
refusal_number NothingWaits = 8
refusal_number NoRule = 9
refusal_number NoSpace = 10
refusal_number Unfinished = 11

abbrev pub refusal_words : Refusal → List ℕ
refusal_words Stations = codes "there are not 1 to 16 stations"
refusal_words Pages = codes "there are not 1 to 4096 pages"
refusal_words Room = codes "the room of a lane is not 1 to 16"
refusal_words Memory = codes "the tables, links and queues are not of the round's sizes, or something waits at prepare"
refusal_words Station = codes "the station is not below the count"
refusal_words Page = codes "the page is not below the count"
refusal_words FullQueue = codes "8 instructions wait at the station"
refusal_words NothingWaits = codes "nothing waits where the firing looks"
refusal_words NoRule = codes "no rule fits"
refusal_words NoSpace = codes "a lane that the rule sends on is no served station's, or has no space"
refusal_words Unfinished = codes "an instruction or a message waits"
