-- What is found at each question of a firing, as the promise of a plan has it.
use Rattle.std.proofs.Common.{◌≡◌, ℕ, zero, suc, ◌<◌, ◌≤◌, Bool, true, false, cond, ◌&&◌, eqb, ltb, ◌≢◌, ◌⊎◌, List, [], ◌∷◌, length, Some, None, Ok, Err, Option, sym, refl, ap, ◌∙◌, subst, inl, inr, arith, MatchOption}
use Rattle.std.specs.Option.{option_map, ok_or}
use Rattle.std.specs.List.{slice_get}
use Rattle.std.proofs.lemmas.Bool.{ne_eqb, true≢false, lt-ltb, ltb-true, and_parts, and_from, and_cases, cases_Bool, cases_eq, cases_lt, both_ways}
use Rattle.messages.specs.declared.message.Kind.{Kind}
use Rattle.messages.specs.declared.message.Message.{Message}
use Rattle.registers.specs.Sets.{station_limit}
use Rattle.links.specs.declared.lane.Lane.{Lane}
use Rattle.links.specs.declared.lane.Lane.TheVariants.{Request, Reply, Down}
use Rattle.links.specs.View.{LaneView, has_space, same_lane}
use Rattle.protocol.specs.declared.cell.Cell.{Cell}
use Rattle.protocol.specs.declared.firing.FiringKind.{FiringKind}
use Rattle.protocol.specs.declared.firing.FiringKind.TheVariants.{Work, Receive, Collect, Serve}
use Rattle.protocol.specs.declared.instruction.Instruction.{Instruction}
use Rattle.protocol.specs.declared.pages.HomePage.{HomePage as HomePageOver}
use Rattle.protocol.specs.declared.pages.HomeState.{HomeState}
use Rattle.protocol.specs.declared.pages.HomeState.TheVariants.{R, W, TR, TW}
use Rattle.protocol.specs.declared.pages.HomeStep.{HomeStep as HomeStepOver}
use Rattle.protocol.specs.declared.pages.Sends.{Sends as SendsOver}
use Rattle.protocol.specs.declared.pages.Sends.TheVariants.{Nothing, To, ToAll}
use Rattle.protocol.specs.declared.sizes.Sizes.{Sizes}
use Rattle.protocol.specs.declared.station.StationStep.{StationStep}
use Rattle.protocol.specs.Machines.{worked, received, collected, served, state_meaning, page_meaning, sends_meaning, step_meaning, Gives, Proper}
use Rattle.protocol.specs.Rules.{Stations, HomePage, HomeStep, Sends, Works, Receives, Collects, is_written_back, is_flushed, strikes, strikes_last, Serves}
use Rattle.protocol.specs.State.{State, Extents, Outcome, message, sent_to, from_station, from_home, station_outcome, home_outcome, leaves_queue, leaves_lane, Fits, works, receives, collects, serves, Space}
use Rattle.protocol.proofs.Machines.{follow}
use Rattle.protocol.proofs.Unique.{works_unique, receives_unique, collects_unique, serves_unique}
use Rattle.coherence.specs.declared.refusal.Refusal.{Refusal}
use Rattle.coherence.specs.declared.refusal.Refusal.TheVariants.{NothingWaits, Page, NoRule, NoSpace}
use Rattle.coherence.specs.Questions.{firing_questions, FirstNo, oldest_page}
use Rattle.protocol.proofs.Recalled.{Low}
use Rattle.coherence.proofs.Tables.{eqb_same}
use Rattle.coherence.proofs.Progress.{posted_by_station, posted_by_home}
use Rattle.calls.specs.Lanes.{space_to_send, space_below, space_for_all}
use Rattle.calls.proofs.Sending.{same_lane_lem, space_at}
use Rattle.calls.specs.Plans.{state_of, work_outcome, receive_outcome, collect_outcome, serve_outcome, Planned, Looked}

-- what `ok_or` refuses with is what it was handed
pub refused : {T : Type 0} (found : Option T) (asked said : Refusal) → Err said ≡ ok_or found asked → said ≡ asked
refused None asked said e = cc
refused (Some x) asked said e = let w : ◌≡◌ {A = ℕ} 0 1 = cc in let n : ⊥ = omega arith in absurd n

-- the rules leave no choice, so there is one outcome
module _ {V : Type 0} (st : State V) (s : ℕ) where
  one_outcome : {kind : FiringKind} {a b : Outcome V} → Fits st s kind a → Fits st s kind b → a ≡ b
  one_outcome (works {i = i} e rule) (works {i = j} {step = other} f rule') =
      let same : i ≡ j = cc in
      let steps = works_unique rule (subst (λ x. Works (st.cell s x.page) x.access other) (sym same) rule') in
      λ k. station_outcome s (same k).page (steps k) Request (leaves_queue (steps k).deed s st)
  one_outcome (receives {m = i} e rule) (receives {m = j} {step = other} f rule') =
      let same : i ≡ j = cc in
      let steps = receives_unique rule (subst (λ x. Receives (st.cell s x.page) x.kind other) (sym same) rule') in
      λ k. station_outcome s (same k).page (steps k) Reply (leaves_lane (steps k).deed Down s st)
  one_outcome (collects {m = i} e rule) (collects {m = j} {step = other} f rule') =
      let same : i ≡ j = cc in
      let steps = collects_unique rule (subst (λ x. Collects s (st.home x.page) x.kind other) (sym same) rule') in
      λ k. home_outcome (same k).page (steps k) (leaves_lane (steps k).deed Reply s st)
  one_outcome (serves {m = i} e rule) (serves {m = j} {step = other} f rule') =
      let same : i ≡ j = cc in
      let steps = serves_unique rule (subst (λ x. Serves s (st.home x.page) x.kind other) (sym same) rule') in
      λ k. home_outcome (same k).page (steps k) (leaves_lane (steps k).deed Request s st)

module _ {V : Type 0} (z : Sizes) (st : State V) (s : ℕ) (kind : FiringKind) where
  pub nothing_waits : oldest_page st kind s ≡ None → FirstNo (firing_questions z st kind s) NothingWaits
  nothing_waits e = inl ((λ x. let f = x.1 in let w : ◌≡◌ {A = ℕ} 0 1 = cc in let n : ⊥ = omega arith in n), refl)

  module _ (p : ℕ) (e : oldest_page st kind s ≡ Some p) where
    pub off_page : z.pages ≤ p → FirstNo (firing_questions z st kind s) Page
    off_page far = inr ((p, e), inl ((λ x. let f = x.1 in let same : x.0 ≡ p = cc in let in' = x.2 in let n : ⊥ = omega arith in n), refl))

    pub no_rule : p < z.pages → ((o : Outcome V) → Fits st s kind o → ⊥) → FirstNo (firing_questions z st kind s) NoRule
    no_rule inside none = inr ((p, e), inr ((p, e, inside), inl ((λ x. none x.0 x.1), refl)))

    pub no_space : p < z.pages → (o : Outcome V) → Fits st s kind o → (Space z st o → ⊥) → FirstNo (firing_questions z st kind s) NoSpace
    no_space inside o fits full =
        inr ((p, e), inr ((p, e, inside), inr ((o, fits), inl ((λ x. full (subst (Space z st) (one_outcome st s x.1 fits) x.2)), refl))))

-- a look at a lane found no message of the round
pub looked_no : {V : Type 0} (z : Sizes) (st : State V) (s : ℕ) (kind : FiringKind) (oldest : Option (Message V)) (refusal : Refusal) → oldest_page st kind s ≡ option_map (λ m. m.page) oldest → Looked oldest z.pages (Err refusal) → FirstNo (firing_questions z st kind s) refusal
looked_no z st s kind oldest refusal e (inl x) = subst (FirstNo (firing_questions z st kind s)) (sym x.1) (nothing_waits z st s kind (e ∙ ap (option_map (λ m. m.page)) x.0))
looked_no z st s kind oldest refusal e (inr x) = subst (FirstNo (firing_questions z st kind s)) (sym x.3) (off_page z st s kind x.0.page (e ∙ ap (option_map (λ m. m.page)) x.1) x.2)

-- space on a station's own lane
module _ {V : Type 0} (z : Sizes) (v : LaneView (Message V)) (count : v.count ≡ z.stations) (room : v.room ≡ z.room) (out : Lane) (s p : ℕ) where
  has_space_lem : has_space v out s ≡ true → (s < z.stations) × (length (v.waiting out s) < z.room)
  has_space_lem e = let parts = and_parts (ltb s v.count) _ e in (subst (λ n. s < n) count (ltb-true _ _ parts.0), subst (λ n. length (v.waiting out s) < n) room (ltb-true _ _ parts.1))

  pub station_space : (k : Option (Kind V)) → space_to_send v out s k ≡ true → (lane : Lane) (t : ℕ) → from_station out s p k lane t ≢ [] → (t < z.stations) × (length (v.waiting lane t) < z.room)
  unfolding from_station
  station_space None e lane t n = absurd (n (silent (same_lane lane out && eqb t s)))
    where
      silent : (b : Bool) → cond {A = List (Message V)} b [] [] ≡ []
      silent true = refl
      silent false = refl
  station_space (Some kind) e lane t n =
      let here = posted_by_station out s p (Some kind) lane t n in
      subst (λ x. (x < z.stations) × (length (v.waiting lane x) < z.room)) (sym here.1) (subst (λ l. (s < z.stations) × (length (v.waiting l s) < z.room)) (sym here.0) (has_space_lem e))

  pub station_full : (k : Option (Kind V)) → space_to_send v out s k ≡ false → ((lane : Lane) (t : ℕ) → from_station out s p k lane t ≢ [] → (t < z.stations) × (length (v.waiting lane t) < z.room)) → ⊥
  unfolding from_station
  station_full None e space = true≢false e
  station_full (Some kind) e space =
      let there = space out s (λ f. let g = simp (same_lane_lem out, eqb_same) at f in let w : ◌≡◌ {A = ℕ} 0 1 = cc in let n : ⊥ = omega arith in n) in
      true≢false (sym (and_from _ _ (lt-ltb _ _ (subst (λ n. s < n) (sym count) there.0)) (lt-ltb _ _ (subst (λ n. length (v.waiting out s) < n) (sym room) there.1))) ∙ e)

-- space on the down lanes, for what the home sends
module _ {V : Type 0} (v : LaneView (Message V)) (set : Stations) where
  below_full : (n : ℕ) → space_below v n set ≡ false → (k : ℕ) × (set k ≡ true) × (has_space v Down k ≡ false)
  unfolding space_below
  below_full zero e = absurd (true≢false e)
  below_full (suc n) e = elim (and_cases (space_below v n set) _ e) [ inl f ↦ below_full n f | inr f ↦ here (set n) refl f ]
    where
      here : (b : Bool) → set n ≡ b → cond b (has_space v Down n) true ≡ false → (k : ℕ) × (set k ≡ true) × (has_space v Down k ≡ false)
      here true e f = (n, e, f)
      here false e f = absurd (true≢false f)

module _ {V : Type 0} (z : Sizes) (v : LaneView (Message V)) (count : v.count ≡ z.stations) (room : v.room ≡ z.room) (p : ℕ) where
  abbrev HomeSpace : Sends V → Type 0
  HomeSpace sends = (lane : Lane) (t : ℕ) → from_home p sends lane t ≢ [] → (t < z.stations) × (length (v.waiting lane t) < z.room)

  space_down : (t : ℕ) → has_space v Down t ≡ true → (lane : Lane) → lane ≡ Down → (t < z.stations) × (length (v.waiting lane t) < z.room)
  space_down t e lane same = subst (λ l. (t < z.stations) × (length (v.waiting l t) < z.room)) (sym same) (has_space_lem z v count room Down t p e)

  pub home_space : (sends : Sends V) → ((set : Stations) (kind : Kind V) → sends ≡ ToAll set kind → Low set) → space_for_all v sends ≡ true → HomeSpace sends
  home_space sends low e lane t n = by sends low e (posted_by_home p sends lane t n)
    where
      by : (sends : Sends V) → ((set : Stations) (kind : Kind V) → sends ≡ ToAll set kind → Low set) → space_for_all v sends ≡ true → (lane ≡ Down) × (sent_to sends t ≢ None) → (t < z.stations) × (length (v.waiting lane t) < z.room)
      by Nothing low e here = absurd (here.1 refl)
      by (To u kind) low e here = elim (cases_eq t u) [ inl same ↦ space_down t (rw same e) lane here.0 | inr other ↦ absurd (here.1 (simp (ne_eqb t u other))) ]
      by (ToAll set kind) low e here = elim (cases_Bool (set t)) [ inl on ↦ space_down t (space_at v set station_limit t e (elim (cases_lt t station_limit) [ inl h ↦ h | inr h ↦ absurd (both_ways (set t) (low set kind refl t h) on) ]) on) lane here.0 | inr off ↦ absurd (here.1 (simp off)) ]

  full_at : (t : ℕ) → has_space v Down t ≡ false → (t < z.stations) × (length (v.waiting Down t) < z.room) → ⊥
  full_at t e there = true≢false (sym (and_from _ _ (lt-ltb _ _ (subst (λ n. t < n) (sym count) there.0)) (lt-ltb _ _ (subst (λ n. length (v.waiting Down t) < n) (sym room) there.1))) ∙ e)

  one_message : {m : Message V} {l : List (Message V)} → l ≡ m ∷ [] → l ≢ []
  one_message e f = let w : ◌≡◌ {A = ℕ} 0 1 = cc in let n : ⊥ = omega arith in n

  pub home_full : (sends : Sends V) → space_for_all v sends ≡ false → HomeSpace sends → ⊥
  unfolding from_home
  home_full Nothing e space = true≢false e
  home_full (To u kind) e space = full_at u e (space Down u (one_message {m = message p kind} (simp eqb_same)))
  home_full (ToAll set kind) e space = let there = below_full v set station_limit e in full_at there.0 there.2 (space Down there.0 (one_message {m = message p kind} (simp there.1)))

-- what a machine that follows the rules answered: a step that fits, or that none does
module _ {X : Type 0} (answer : Option X) (F : X → Type 0) (gives : Gives answer F) where
  answered_step : (x : X) → Some x ≡ answer → F x
  answered_step x e = subst (λ o. MatchOption o ((y : X) → F y → ⊥) F) (sym e) gives.0

  answered_none : None ≡ answer → (x : X) → F x → ⊥
  answered_none e = subst (λ o. MatchOption o ((y : X) → F y → ⊥) F) (sym e) gives.0

-- the sets of a page that a register keeps name no number that is no station's
pub proper : {V D : Type 0} (names : D → Stations) → ((register : D) (number : ℕ) → station_limit ≤ number → names register number ≡ false) → (h : HomePageOver V D) → Proper (page_meaning names h)
proper {V} {D} names high h set number which far = by h.state which
  where
    by : (x : HomeState D) → (state_meaning names x ≡ R set) ⊎ (state_meaning names x ≡ TR set) → set number ≡ false
    by (R d) (inl e) = let same : names d ≡ set = cc in subst (λ f. f number ≡ false) same (high d number far)
    by (R d) (inr e) = let w : ◌≡◌ {A = ℕ} 0 1 = cc in let n : ⊥ = omega arith in absurd n
    by (W t) (inl e) = let w : ◌≡◌ {A = ℕ} 0 1 = cc in let n : ⊥ = omega arith in absurd n
    by (W t) (inr e) = let w : ◌≡◌ {A = ℕ} 0 1 = cc in let n : ⊥ = omega arith in absurd n
    by (TR d) (inl e) = let w : ◌≡◌ {A = ℕ} 0 1 = cc in let n : ⊥ = omega arith in absurd n
    by (TR d) (inr e) = let same : names d ≡ set = cc in subst (λ f. f number ≡ false) same (high d number far)
    by (TW t) (inl e) = let w : ◌≡◌ {A = ℕ} 0 1 = cc in let n : ⊥ = omega arith in absurd n
    by (TW t) (inr e) = let w : ◌≡◌ {A = ℕ} 0 1 = cc in let n : ⊥ = omega arith in absurd n

module _ {V : Type 0} (st : State V) (s : ℕ) where
  -- the station's machine on its oldest instruction
  module _ (i : Instruction V) (cell : Cell V) (oldest : Some i ≡ slice_get (st.queue s) 0) (looked : cell ≡ st.cell s i.page) where
    work_fits : (step : StationStep V) → Some step ≡ worked cell i.access → Fits st s Work (work_outcome st s (i.page, step))
    work_fits step e = works (sym oldest) (subst (λ c. Works c i.access step) looked (answered_step _ _ ((follow V).work cell i.access) step e))

    work_none : None ≡ worked cell i.access → (o : Outcome V) → Fits st s Work o → ⊥
    work_none e o (works {i = j} {step = step} f rule) =
        let same : j ≡ i = cc in
        answered_none _ _ ((follow V).work cell i.access) e step (subst (λ c. Works c i.access step) (sym looked) (subst (λ x. Works (st.cell s x.page) x.access step) same rule))

  -- and on the oldest message of its down lane
  module _ (m : Message V) (cell : Cell V) (oldest : Some m ≡ slice_get (st.lane Down s) 0) (looked : cell ≡ st.cell s m.page) where
    receive_fits : (step : StationStep V) → Some step ≡ received cell m.kind → Fits st s Receive (receive_outcome st s (m.page, step))
    receive_fits step e = receives (sym oldest) (subst (λ c. Receives c m.kind step) looked (answered_step _ _ ((follow V).receive cell m.kind) step e))

    receive_none : None ≡ received cell m.kind → (o : Outcome V) → Fits st s Receive o → ⊥
    receive_none e o (receives {m = j} {step = step} f rule) =
        let same : j ≡ m = cc in
        answered_none _ _ ((follow V).receive cell m.kind) e step (subst (λ c. Receives c m.kind step) (sym looked) (subst (λ x. Receives (st.cell s x.page) x.kind step) same rule))

  -- the home's machine on the oldest message of a station's reply lane, or of its request lane
  module _ (m : Message V) (h : HomePage V) (is-proper : Proper h) (looked : st.home m.page ≡ h) where
    collect_fits : Some m ≡ slice_get (st.lane Reply s) 0 → (step : HomeStep V) → Some step ≡ collected s h m.kind → Fits st s Collect (home_outcome m.page step (leaves_lane step.deed Reply s st))
    collect_fits oldest step e = collects (sym oldest) (subst (λ x. Collects s x m.kind step) (sym looked) (answered_step _ _ ((follow V).collect s h m.kind is-proper) step e))

    collect_none : Some m ≡ slice_get (st.lane Reply s) 0 → None ≡ collected s h m.kind → (o : Outcome V) → Fits st s Collect o → ⊥
    collect_none oldest e o (collects {m = j} {step = step} f rule) =
        let same : j ≡ m = cc in
        answered_none _ _ ((follow V).collect s h m.kind is-proper) e step (subst (λ x. Collects s x m.kind step) looked (subst (λ x. Collects s (st.home x.page) x.kind step) same rule))

    serve_fits : Some m ≡ slice_get (st.lane Request s) 0 → (step : HomeStep V) → Some step ≡ served s h m.kind → Fits st s Serve (home_outcome m.page step (leaves_lane step.deed Request s st))
    serve_fits oldest step e = serves (sym oldest) (subst (λ x. Serves s x m.kind step) (sym looked) (answered_step _ _ ((follow V).serve s h m.kind is-proper) step e))

    serve_none : Some m ≡ slice_get (st.lane Request s) 0 → None ≡ served s h m.kind → (o : Outcome V) → Fits st s Serve o → ⊥
    serve_none oldest e o (serves {m = j} {step = step} f rule) =
        let same : j ≡ m = cc in
        answered_none _ _ ((follow V).serve s h m.kind is-proper) e step (subst (λ x. Serves s x m.kind step) looked (subst (λ x. Serves s (st.home x.page) x.kind step) same rule))

sends_nothing : {V : Type 0} {s : ℕ} {h : HomePage V} {k : Kind V} {step : HomeStep V} → Collects s h k step → step.sends ≡ Nothing
sends_nothing is_written_back = refl
sends_nothing is_flushed = refl
sends_nothing (strikes y more) = refl
sends_nothing (strikes_last y more) = refl

pub collect_silent : {V D : Type 0} (names : D → Stations) (high : (register : D) (number : ℕ) → station_limit ≤ number → names register number ≡ false) (s : ℕ) (h : HomePageOver V D) (kind : Kind V) (step : HomeStepOver V D) → Some (step_meaning names step) ≡ collected s (page_meaning names h) kind → sends_meaning names step.sends ≡ Nothing
collect_silent {V} names high s h kind step e = sends_nothing (answered_step _ _ ((follow V).collect s (page_meaning names h) kind (proper names high h)) (step_meaning names step) e)

-- the exits of each plan after something was found to wait
module _ {V : Type 0} (z : Sizes) (v : LaneView (Message V)) (s : ℕ) (home : ℕ → HomePage V) (cells : ℕ → ℕ → Cell V) (rows : ℕ → List (Instruction V)) (extents : Extents) where
  abbrev Here : State V
  Here = state_of home cells v.waiting rows extents

  module _ (i : Instruction V) (cell : Cell V) (oldest : Some i ≡ slice_get (rows s) 0) (looked : cell ≡ cells s i.page) where
    work_page : oldest_page Here Work s ≡ Some i.page
    work_page = ap (option_map (λ x. x.page)) (sym oldest)

    pub work_no_rule : i.page < z.pages → None ≡ worked cell i.access → FirstNo (firing_questions z Here Work s) NoRule
    work_no_rule inside e = no_rule z Here s Work i.page work_page inside (work_none Here s i cell oldest looked e)

    pub work_no_space : v.count ≡ z.stations → v.room ≡ z.room → (step : StationStep V) → i.page < z.pages → Some step ≡ worked cell i.access → space_to_send v Request s step.sends ≡ false → FirstNo (firing_questions z Here Work s) NoSpace
    work_no_space count room step inside e full = no_space z Here s Work i.page work_page inside _ (work_fits Here s i cell oldest looked step e) (station_full z v count room Request s i.page step.sends full)

    pub work_planned : v.count ≡ z.stations → v.room ≡ z.room → (step : StationStep V) → i.page < z.pages → Some step ≡ worked cell i.access → space_to_send v Request s step.sends ≡ true → Planned z Here s Work (work_outcome Here s) (Ok (i.page, step))
    work_planned count room step inside e space = (work_fits Here s i cell oldest looked step e, inside, station_space z v count room Request s i.page step.sends space)

  module _ (m : Message V) (cell : Cell V) (oldest : Some m ≡ slice_get (v.waiting Down s) 0) (looked : cell ≡ cells s m.page) where
    receive_page : oldest_page Here Receive s ≡ Some m.page
    receive_page = ap (option_map (λ x. x.page)) (sym oldest)

    pub receive_no_rule : m.page < z.pages → None ≡ received cell m.kind → FirstNo (firing_questions z Here Receive s) NoRule
    receive_no_rule inside e = no_rule z Here s Receive m.page receive_page inside (receive_none Here s m cell oldest looked e)

    pub receive_no_space : v.count ≡ z.stations → v.room ≡ z.room → (step : StationStep V) → m.page < z.pages → Some step ≡ received cell m.kind → space_to_send v Reply s step.sends ≡ false → FirstNo (firing_questions z Here Receive s) NoSpace
    receive_no_space count room step inside e full = no_space z Here s Receive m.page receive_page inside _ (receive_fits Here s m cell oldest looked step e) (station_full z v count room Reply s m.page step.sends full)

    pub receive_planned : v.count ≡ z.stations → v.room ≡ z.room → (step : StationStep V) → m.page < z.pages → Some step ≡ received cell m.kind → space_to_send v Reply s step.sends ≡ true → Planned z Here s Receive (receive_outcome Here s) (Ok (m.page, step))
    receive_planned count room step inside e space = (receive_fits Here s m cell oldest looked step e, inside, station_space z v count room Reply s m.page step.sends space)

  -- the home, on a reply and on a request
  module _ {D : Type 0} (names : D → Stations) (high : (register : D) (number : ℕ) → station_limit ≤ number → names register number ≡ false) (m : Message V) (h : HomePageOver V D) (looked : home m.page ≡ page_meaning names h) where
    module _ (oldest : Some m ≡ slice_get (v.waiting Reply s) 0) where
      collect_page : oldest_page Here Collect s ≡ Some m.page
      collect_page = ap (option_map (λ x. x.page)) (sym oldest)

      pub collect_no_rule : m.page < z.pages → None ≡ collected s (page_meaning names h) m.kind → FirstNo (firing_questions z Here Collect s) NoRule
      collect_no_rule inside e = no_rule z Here s Collect m.page collect_page inside (collect_none Here s m _ (proper names high h) looked oldest e)

      pub collect_planned : (step : HomeStepOver V D) → m.page < z.pages → Some (step_meaning names step) ≡ collected s (page_meaning names h) m.kind → Planned z Here s Collect (collect_outcome names Here s) (Ok (m.page, step))
      collect_planned step inside e = (collect_fits Here s m _ (proper names high h) looked oldest (step_meaning names step) e, inside, λ lane t n. absurd ((posted_by_home m.page _ lane t n).1 (ap (λ x. sent_to x t) (collect_silent names high s h m.kind step e))))

    module _ (oldest : Some m ≡ slice_get (v.waiting Request s) 0) where
      serve_page : oldest_page Here Serve s ≡ Some m.page
      serve_page = ap (option_map (λ x. x.page)) (sym oldest)

      pub serve_no_rule : m.page < z.pages → None ≡ served s (page_meaning names h) m.kind → FirstNo (firing_questions z Here Serve s) NoRule
      serve_no_rule inside e = no_rule z Here s Serve m.page serve_page inside (serve_none Here s m _ (proper names high h) looked oldest e)

      pub serve_no_space : v.count ≡ z.stations → v.room ≡ z.room → (step : HomeStepOver V D) → m.page < z.pages → Some (step_meaning names step) ≡ served s (page_meaning names h) m.kind → space_for_all v (sends_meaning names step.sends) ≡ false → FirstNo (firing_questions z Here Serve s) NoSpace
      serve_no_space count room step inside e full = no_space z Here s Serve m.page serve_page inside _ (serve_fits Here s m _ (proper names high h) looked oldest (step_meaning names step) e) (home_full z v count room m.page (sends_meaning names step.sends) full)

      pub serve_planned : v.count ≡ z.stations → v.room ≡ z.room → (step : HomeStepOver V D) → m.page < z.pages → Some (step_meaning names step) ≡ served s (page_meaning names h) m.kind → space_for_all v (sends_meaning names step.sends) ≡ true → Planned z Here s Serve (serve_outcome names Here s) (Ok (m.page, step))
      serve_planned count room step inside e space = (serve_fits Here s m _ (proper names high h) looked oldest (step_meaning names step) e, inside, home_space z v count room m.page (sends_meaning names step.sends) (low_sends step.sends) space)
        where
          low_sends : (sends : SendsOver V D) (set : Stations) (kind : Kind V) → sends_meaning names sends ≡ ToAll set kind → Low set
          low_sends Nothing set kind e = let w : ◌≡◌ {A = ℕ} 0 1 = cc in let n : ⊥ = omega arith in absurd n
          low_sends (To t k) set kind e = let w : ◌≡◌ {A = ℕ} 0 1 = cc in let n : ⊥ = omega arith in absurd n
          low_sends (ToAll d k) set kind e = let same : names d ≡ set = cc in subst Low same (high d)
