-- Examples of messages in bytes, over the definitions that the contracts cite. Assumes nothing.
use Rattle.std.specs.Prelude.{◌≡◌, [], ◌∷◌}
use Rattle.values.specs.Count.{of_number, count_bytes}
use Rattle.messages.specs.declared.message.Kind.TheVariants.{ShRep, InvReq}
use Rattle.messages.specs.Bytes.{message_bytes}

abbrev pub ShareReplyOfPage5WithCount300 : Type 0
ShareReplyOfPage5WithCount300 =
    message_bytes count_bytes (record { page = 5; kind = ShRep (of_number 300) })
    ≡ 0x01 ∷ 0x00 ∷ 0x01 ∷ 0x03 ∷ 0x02 ∷ 0x00 ∷ 0x02 ∷ 0x00 ∷ 0x05 ∷ 0x03 ∷ 0x00 ∷ 0x04 ∷ 0x00 ∷ 0x00 ∷ 0x01 ∷ 0x2C ∷ []

abbrev pub InvalidateRequestOfPage258 : Type 0
InvalidateRequestOfPage258 =
    message_bytes count_bytes (record { page = 258; kind = InvReq })
    ≡ 0x01 ∷ 0x00 ∷ 0x01 ∷ 0x07 ∷ 0x02 ∷ 0x00 ∷ 0x02 ∷ 0x01 ∷ 0x02 ∷ []
