-- What comes next in a script is one thing, and the bytes of a record read as that record. Assumes nothing.
use Rattle.std.proofs.Common.{◌≡◌, ℕ, ◌+◌, ◌-◌, ◌*◌, ◌/◌, ◌%◌, ◌<◌, ◌≤◌, Bool, cond, eqb, ◌⊎◌, List, [], ◌++◌, length, get_or, drop, Ok, Err, Result, sym, refl, ap, ◌∙◌, inl, inr, ⊎_elim, arith, length-append}
use Rattle.protocol.specs.declared.firing.FiringKind.{FiringKind}
use Rattle.protocol.specs.declared.firing.FiringKind.TheVariants.{Work, Receive, Collect, Serve}
use Rattle.messages.specs.Bytes.{field}
use Rattle.messages.proofs.Fields.{unique}
use Rattle.script.specs.declared.fault.Fault.{Fault}
use Rattle.script.specs.declared.fault.FaultKind.{FaultKind}
use Rattle.script.specs.declared.fault.FaultKind.TheVariants.{TooLong, HeaderCut, BodyCut, UnknownTag, WrongLength, Unreadable}
use Rattle.script.specs.declared.record.Record.{Record}
use Rattle.script.specs.declared.record.Record.TheVariants.{Prepare, Set, Start, Load, Store, Fire, Close, Readout}
use Rattle.script.specs.Fields.{Found, end, one, broken, announced, Cut, Front}
use Rattle.script.specs.Records.{Piece, tag_of, body_of, body_sizes, OfValue, Holds, RightLength, Fails, Says, Outcome, faulty, of_field, Next, ended, cut, padded, told}
use Rattle.script.specs.Readings.{OneThingComesNext, RecordsReadBack}

same_fault : (f g : Fault) → f.kind ≡ g.kind → f.at ≡ g.at → f ≡ g
same_fault f g k a i = record { kind = k i; at = a i }

-- which of the two faults of a field it is
which_cut : (kind : FaultKind) (left : List ℕ) → Cut kind left → ((kind ≡ HeaderCut) × (0 < length left) × (length left < 3)) ⊎ ((kind ≡ BodyCut) × (3 ≤ length left) × (length left < 3 + announced left))
which_cut TooLong left h = absurd h
which_cut HeaderCut left h = inl (refl, h.0, h.1)
which_cut BodyCut left h = inr (refl, h.0, h.1)
which_cut UnknownTag left h = absurd h
which_cut WrongLength left h = absurd h
which_cut Unreadable left h = absurd h

same_cut : (k l : FaultKind) (left : List ℕ) → Cut k left → Cut l left → k ≡ l
same_cut k l left h g =
    ⊎_elim (λ a. ⊎_elim (λ b. a.0 ∙ sym b.0) (λ b. absurd (omega (arith, a.2, b.1))) (which_cut l left g))
    (λ a. ⊎_elim (λ b. absurd (omega (arith, a.1, b.2))) (λ b. a.0 ∙ sym b.0) (which_cut l left g)) (which_cut k left h)

-- a whole field is not cut
whole : (left body rest : List ℕ) (tag : ℕ) → left ≡ field tag body ++ rest → (3 ≤ length left) × (3 + announced left ≤ length left)
whole left body rest tag is =
    let size : length left ≡ 3 + length (body ++ rest) = ap length is ∙ omega arith in
    let parts = length-append body rest in
    let says : announced left ≡ length body / 256 * 256 + length body % 256 = ap announced is in
    (omega arith, omega arith)

not_cut : (kind : FaultKind) (left body rest : List ℕ) (tag : ℕ) → left ≡ field tag body ++ rest → Cut kind left → ⊥
not_cut kind left body rest tag is h =
    let w = whole left body rest tag is in
    ⊎_elim (λ a. omega (arith, a.2, w.0)) (λ a. omega (arith, a.2, w.1)) (which_cut kind left h)

not_none : (kind : FaultKind) (left : List ℕ) → left ≡ [] → Cut kind left → ⊥
not_none kind left is h = let none = ap length is in ⊎_elim (λ a. omega (arith, a.1)) (λ a. omega (arith, a.1)) (which_cut kind left h)

same_field : (left : List ℕ) (tag tag' : ℕ) (body body' rest rest' : List ℕ) → left ≡ field tag body ++ rest → left ≡ field tag' body' ++ rest' → (tag ≡ tag') × (body ≡ body')
same_field left tag tag' body body' rest rest' a b =
    let tags : tag ≡ tag' = cc in
    (tags, (unique tag body body' rest rest' (sym a ∙ b ∙ ap (λ (t : ℕ). field t body' ++ rest') (sym tags))).0)

same_front : (left : List ℕ) (place : ℕ) (a b : Found) → Front left place a → Front left place b → a ≡ b
same_front left place end end f g = refl
same_front left place end (one tag body at) f g = let w = whole left body g.1.0 tag g.1.1 in let none = ap length f in absurd (omega arith)
same_front left place end (broken fault) f g = absurd (not_none fault.kind left f g.1)
same_front left place (one tag body at) end f g = let w = whole left body f.1.0 tag f.1.1 in let none = ap length g in absurd (omega arith)
same_front left place (one tag body at) (one tag' body' at') f g =
    let same = same_field left tag tag' body body' f.1.0 g.1.0 f.1.1 g.1.1 in
    let ats : at ≡ at' = f.0 ∙ sym g.0 in
    (λ i. one (same.0 i) (same.1 i) (ats i))
same_front left place (one tag body at) (broken fault) f g = absurd (not_cut fault.kind left body f.1.0 tag f.1.1 g.1)
same_front left place (broken fault) end f g = absurd (not_none fault.kind left g f.1)
same_front left place (broken fault) (one tag body at) f g = absurd (not_cut fault.kind left body g.1.0 tag g.1.1 f.1)
same_front left place (broken fault) (broken fault') f g = ap (λ (x : Fault). broken x) (same_fault fault fault' (same_cut _ _ left f.1 g.1) (f.0 ∙ sym g.0))

-- the record that has this tag and this body
kind_numbered : ℕ → FiringKind
kind_numbered n = cond (eqb n 1) Work (cond (eqb n 2) Receive (cond (eqb n 3) Collect Serve))

word_at : List ℕ → ℕ → ℕ
word_at body i = get_or body i 0 * 256 + get_or body (i + 1) 0

rebuild : ℕ → List ℕ → ℕ → Record Piece
rebuild tag body place =
    cond (eqb tag 1) (Prepare (get_or body 0 0) (word_at body 1) (get_or body 3 0))
    (cond (eqb tag 2) (Set (word_at body 0) (record { bytes = drop 2 body; at = place }))
    (cond (eqb tag 3) Start
    (cond (eqb tag 4) (Load (get_or body 0 0) (word_at body 1))
    (cond (eqb tag 5) (Store (get_or body 0 0) (word_at body 1) (record { bytes = drop 3 body; at = place }))
    (cond (eqb tag 6) (Fire (kind_numbered (get_or body 0 0)) (get_or body 1 0)) (cond (eqb tag 7) Close (Readout (word_at body 0))))))))

number_whole : (n : ℕ) → n / 256 * 256 + n % 256 ≡ n
number_whole n = omega arith

rebuilt : (r : Record Piece) (place : ℕ) → OfValue (λ value. value.at ≡ place) r → rebuild (tag_of r) (body_of r) place ≡ r
unfolding rebuild word_at kind_numbered
rebuilt (Prepare stations pages room) place h = ap (λ (p : ℕ). Prepare stations p room) (number_whole pages)
rebuilt (Set page value) place h = (λ i. Set (number_whole page i) (record { bytes = value.bytes; at = sym h i }))
rebuilt Start place h = refl
rebuilt (Load station page) place h = ap (λ (p : ℕ). Load station p) (number_whole page)
rebuilt (Store station page value) place h = (λ i. Store station (number_whole page i) (record { bytes = value.bytes; at = sym h i }))
rebuilt (Fire Work station) place h = refl
rebuilt (Fire Receive station) place h = refl
rebuilt (Fire Collect station) place h = refl
rebuilt (Fire Serve station) place h = refl
rebuilt Close place h = refl
rebuilt (Readout page) place h = ap (λ (p : ℕ). Readout p) (number_whole page)

tag_range : (r : Record Piece) → (0 < tag_of r) × (tag_of r ≤ 8)
tag_range (Prepare a b c) = (omega arith, omega arith)
tag_range (Set a b) = (omega arith, omega arith)
tag_range Start = (omega arith, omega arith)
tag_range (Load a b) = (omega arith, omega arith)
tag_range (Store a b c) = (omega arith, omega arith)
tag_range (Fire a b) = (omega arith, omega arith)
tag_range Close = (omega arith, omega arith)
tag_range (Readout a) = (omega arith, omega arith)

module _ (width : ℕ) (readable : List ℕ → Bool) where
  right_size : (r : Record Piece) → OfValue (λ value. length value.bytes ≡ width) r → length (body_of r) ≡ get_or (body_sizes width) (tag_of r - 1) 0
  right_size (Prepare a b c) h = refl
  right_size (Set page value) h = omega (arith, h)
  right_size Start h = refl
  right_size (Load a b) h = refl
  right_size (Store station page value) h = omega (arith, h)
  right_size (Fire a b) h = refl
  right_size Close h = refl
  right_size (Readout a) h = refl

  module _ (tag : ℕ) (body : List ℕ) (place : ℕ) where
    same_record : (r s : Record Piece) → Holds width readable tag body place r → Holds width readable tag body place s → r ≡ s
    same_record r s h g =
        sym (rebuilt r place h.placed) ∙ (λ i. rebuild ((sym h.tagged ∙ g.tagged) i) ((sym h.bodied ∙ g.bodied) i) place) ∙ rebuilt s place g.placed

    right : (r : Record Piece) → Holds width readable tag body place r → RightLength width readable tag body
    right r h = ap length h.bodied ∙ right_size r h.wide ∙ ap (λ (t : ℕ). get_or (body_sizes width) (t - 1) 0) (sym h.tagged)

    not_both : (r : Record Piece) (kind : FaultKind) → Holds width readable tag body place r → Fails width readable tag body place kind → ⊥
    not_both r TooLong h f = f
    not_both r HeaderCut h f = f
    not_both r BodyCut h f = f
    not_both r UnknownTag h f = omega (arith, (tag_range r).1, h.tagged, f)
    not_both r WrongLength h f = f.1 (right r h)
    not_both r Unreadable h f = f.2 r h

    same_fails : (k l : FaultKind) → Fails width readable tag body place k → Fails width readable tag body place l → k ≡ l
    same_fails TooLong l f g = absurd f
    same_fails HeaderCut l f g = absurd f
    same_fails BodyCut l f g = absurd f
    same_fails UnknownTag TooLong f g = absurd g
    same_fails UnknownTag HeaderCut f g = absurd g
    same_fails UnknownTag BodyCut f g = absurd g
    same_fails UnknownTag UnknownTag f g = refl
    same_fails UnknownTag WrongLength f g = absurd (omega (arith, f, g.0))
    same_fails UnknownTag Unreadable f g = absurd (omega (arith, f, g.0))
    same_fails WrongLength TooLong f g = absurd g
    same_fails WrongLength HeaderCut f g = absurd g
    same_fails WrongLength BodyCut f g = absurd g
    same_fails WrongLength UnknownTag f g = absurd (omega (arith, f.0, g))
    same_fails WrongLength WrongLength f g = refl
    same_fails WrongLength Unreadable f g = absurd (f.1 g.1)
    same_fails Unreadable TooLong f g = absurd g
    same_fails Unreadable HeaderCut f g = absurd g
    same_fails Unreadable BodyCut f g = absurd g
    same_fails Unreadable UnknownTag f g = absurd (omega (arith, f.0, g))
    same_fails Unreadable WrongLength f g = absurd (g.1 f.1)
    same_fails Unreadable Unreadable f g = refl

    same_says : (a b : Result (Record Piece) Fault) → Says width readable tag body place a → Says width readable tag body place b → a ≡ b
    same_says (Ok r) (Ok s) f g = ap (λ (x : Record Piece). Ok x) (same_record r s f g)
    same_says (Ok r) (Err fault) f g = absurd (not_both r fault.kind f g.1)
    same_says (Err fault) (Ok s) f g = absurd (not_both s fault.kind g f.1)
    same_says (Err fault) (Err fault') f g = ap (λ (x : Fault). Err x) (same_fault fault fault' (same_fails _ _ f.1 g.1) (f.0 ∙ sym g.0))

  module _ (script : List ℕ) where
    -- two different findings at one byte
    clash : {P : Type 0} (at : ℕ) (a b : Found) → (a ≡ b → ⊥) → Front (drop at script) at a → Front (drop at script) at b → P
    clash at a b apart f g = absurd (apart (same_front (drop at script) at a b f g))

    same_told : (at place place' tag tag' : ℕ) (body body' : List ℕ) (r s : Result (Record Piece) Fault) → one tag body place ≡ one tag' body' place' → Says width readable tag body place r → Says width readable tag' body' place' s → (of_field place r ≡ of_field place' s) × (at + (3 + length body) ≡ at + (3 + length body'))
    same_told at place place' tag tag' body body' r s e f g =
        let tags : tag ≡ tag' = cc in
        let bodies : body ≡ body' = cc in
        let places : place ≡ place' = cc in
        let both : r ≡ s = same_says tag body place r s f (rw (tags, bodies, places) g) in
        ((λ i. of_field (places i) (both i)), ap (λ (b : List ℕ). at + (3 + length b)) bodies)

    same_next : (at : ℕ) (a b : Outcome) (x y : ℕ) → Next width readable script at a x → Next width readable script at b y → (a ≡ b) × (x ≡ y)
    same_next at a b x y (ended _ f) (ended _ g) = (refl, refl)
    same_next at a b x y (ended _ f) (cut _ fault g) = clash at end (broken fault) (λ e. let z : ◌≡◌ {A = ℕ} 0 1 = cc in omega arith) f g
    same_next at a b x y (ended _ f) (padded _ place body _ _ g later) = clash at end (one 0 body place) (λ e. let z : ◌≡◌ {A = ℕ} 0 1 = cc in omega arith) f g
    same_next at a b x y (ended _ f) (told _ place tag body r g some says) = clash at end (one tag body place) (λ e. let z : ◌≡◌ {A = ℕ} 0 1 = cc in omega arith) f g
    same_next at a b x y (cut _ fault f) (ended _ g) = clash at (broken fault) end (λ e. let z : ◌≡◌ {A = ℕ} 0 1 = cc in omega arith) f g
    same_next at a b x y (cut _ fault f) (cut _ fault' g) =
        let e : broken fault ≡ broken fault' = same_front (drop at script) at _ _ f g in
        let same : fault ≡ fault' = cc in
        (ap (λ (z : Fault). faulty z) same, refl)
    same_next at a b x y (cut _ fault f) (padded _ place body _ _ g later) = clash at (broken fault) (one 0 body place) (λ e. let z : ◌≡◌ {A = ℕ} 0 1 = cc in omega arith) f g
    same_next at a b x y (cut _ fault f) (told _ place tag body r g some says) = clash at (broken fault) (one tag body place) (λ e. let z : ◌≡◌ {A = ℕ} 0 1 = cc in omega arith) f g
    same_next at a b x y (padded _ place body _ _ f later) (ended _ g) = clash at (one 0 body place) end (λ e. let z : ◌≡◌ {A = ℕ} 0 1 = cc in omega arith) f g
    same_next at a b x y (padded _ place body _ _ f later) (cut _ fault g) = clash at (one 0 body place) (broken fault) (λ e. let z : ◌≡◌ {A = ℕ} 0 1 = cc in omega arith) f g
    same_next at a b x y (padded _ place body _ _ f later) (padded _ place' body' _ _ g later') =
        let e : one 0 body place ≡ one 0 body' place' = same_front (drop at script) at _ _ f g in
        let bodies : body ≡ body' = cc in
        same_next (at + (3 + length body)) a b x y later (rw bodies later')
    same_next at a b x y (padded _ place body _ _ f later) (told _ place' tag body' r g some says) =
        clash at (one 0 body place) (one tag body' place') (λ e. let z : 0 ≡ tag = cc in omega arith) f g
    same_next at a b x y (told _ place tag body r f some says) (ended _ g) = clash at (one tag body place) end (λ e. let z : ◌≡◌ {A = ℕ} 0 1 = cc in omega arith) f g
    same_next at a b x y (told _ place tag body r f some says) (cut _ fault g) = clash at (one tag body place) (broken fault) (λ e. let z : ◌≡◌ {A = ℕ} 0 1 = cc in omega arith) f g
    same_next at a b x y (told _ place tag body r f some says) (padded _ place' body' _ _ g later) =
        clash at (one tag body place) (one 0 body' place') (λ e. let z : 0 ≡ tag = cc in omega arith) f g
    same_next at a b x y (told _ place tag body r f some says) (told _ place' tag' body' s g some' says') =
        same_told at place place' tag tag' body body' r s (same_front (drop at script) at _ _ f g) says says'

pub one_thing : OneThingComesNext
one_thing width readable script at a b x y f g = same_next width readable script at a b x y f g

pub read_back : RecordsReadBack
read_back width readable script rest at r wide reads placed is =
    told at at (tag_of r) (body_of r) (Ok r) (refl, (rest, is)) (tag_range r).0 (record { tagged = refl; bodied = refl; wide = wide; reads = reads; placed = placed })
