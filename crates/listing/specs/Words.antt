-- The words of a listing. Assumes nothing.
use Rattle.std.specs.Prelude.{◌≡◌, ℕ, true, List, ◌++◌, is_some, Option, Result, MatchResult, ◌≢◌, codes, decimal}
use Rattle.std.specs.Option.{option_map}
use Rattle.protocol.specs.declared.firing.FiringKind.{FiringKind}
use Rattle.protocol.specs.declared.firing.FiringKind.TheVariants.{Work, Receive, Collect, Serve}
use Rattle.script.specs.declared.record.Record.{Record}
use Rattle.script.specs.declared.record.Record.TheVariants.{Prepare, Set, Start, Load, Store, Fire, Close, Readout}
use Rattle.script.specs.Records.{record_where}
use Rattle.listing.specs.declared.kinds.ScriptKind.{ScriptKind}
use Rattle.listing.specs.declared.kinds.ScriptKind.TheVariants.{Counts, Answers}
use Rattle.listing.specs.declared.kinds.UnknownScriptKind.{UnknownScriptKind}

abbrev pub firing_words : FiringKind → ℕ → List ℕ
firing_words Work station = codes "station " ++ (decimal station ++ codes " works its oldest instruction")
firing_words Receive station = codes "station " ++ (decimal station ++ codes " receives from its down lane")
firing_words Collect station = codes "the home reads from the reply lane of station " ++ decimal station
firing_words Serve station = codes "the home takes the request of station " ++ decimal station

-- a record whose value is given by its words
abbrev pub meaning_words : Record (List ℕ) → List ℕ
meaning_words (Prepare stations pages room) = codes "prepare stations " ++ (decimal stations ++ (codes ", pages " ++ (decimal pages ++ (codes ", room " ++ decimal room))))
meaning_words (Set page value) = codes "set page " ++ (decimal page ++ (codes " to " ++ value))
meaning_words Start = codes "start"
meaning_words (Load station page) = codes "station " ++ (decimal station ++ (codes " is to load page " ++ decimal page))
meaning_words (Store station page value) = codes "station " ++ (decimal station ++ (codes " is to store " ++ (value ++ (codes " to page " ++ decimal page))))
meaning_words (Fire kind station) = codes "fire: " ++ firing_words kind station
meaning_words Close = codes "close"
meaning_words (Readout page) = codes "readout page " ++ decimal page

-- a record in words, where the kind of its value says what it prints
abbrev pub meaning : {V : Type 0} → (V → Option (List ℕ)) → Record V → Option (List ℕ)
meaning output r = option_map meaning_words (record_where output r)

-- the kind says of each value what it prints
abbrev pub Prints : {V : Type 0} → (V → Option (List ℕ)) → Type 0
Prints {V} output = (x : V) → is_some (output x) ≡ true

-- the name by which a kind of values is asked for
abbrev pub kind_name : ScriptKind → List ℕ
kind_name Counts = codes "counts"
kind_name Answers = codes "answers"

-- the kind that has this name, or else no kind has it
abbrev pub NamesKind : List ℕ → Result ScriptKind UnknownScriptKind → Type 0
NamesKind name result = MatchResult result (λ kind. kind_name kind ≡ name) (λ unknown. (kind : ScriptKind) → kind_name kind ≢ name)
