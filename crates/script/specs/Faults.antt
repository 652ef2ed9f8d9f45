-- The layer and the number of each fault of a script, and what they mean in words. Assumes nothing.
use Rattle.std.specs.Prelude.{ℕ, List, codes}
use Rattle.script.specs.declared.fault.Layer.{Layer}
use Rattle.script.specs.declared.fault.Layer.TheVariants.{Field, Record}
use Rattle.script.specs.declared.fault.FaultKind.{FaultKind}
use Rattle.script.specs.declared.fault.FaultKind.TheVariants.{TooLong, HeaderCut, BodyCut, UnknownTag, WrongLength, Unreadable}

abbrev pub layer_number : Layer → ℕ
layer_number Field = 1
layer_number Record = 2

abbrev pub fault_layer : FaultKind → Layer
fault_layer TooLong = Field
fault_layer HeaderCut = Field
fault_layer BodyCut = Field
fault_layer UnknownTag = Record
fault_layer WrongLength = Record
fault_layer Unreadable = Record

abbrev pub fault_number : FaultKind → ℕ
fault_number TooLong = 20
fault_number HeaderCut = 21
fault_number BodyCut = 22
fault_number UnknownTag = 23
fault_number WrongLength = 24
fault_number Unreadable = 25

abbrev pub fault_words : FaultKind → List ℕ
fault_words TooLong = codes "the script has more than 65536 bytes"
fault_words HeaderCut = codes "fewer than three bytes are left for a header"
fault_words BodyCut = codes "fewer bytes are left than the header says"
fault_words UnknownTag = codes "no record has this tag"
fault_words WrongLength = codes "no record of this tag has this length"
fault_words Unreadable = codes "the value or the kind of firing does not read"
