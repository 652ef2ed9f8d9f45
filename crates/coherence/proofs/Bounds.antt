-- Nothing ever stands at a station or a page past the counts.
use Rattle.std.proofs.Common.{◌≡◌, ℕ, ◌<◌, ◌≤◌, Bool, ◌&&◌, eqb, ◌≢◌, List, [], ◌∷◌, length, drop, refl, ap, ◌∙◌, arith}
use Rattle.std.specs.List.{AllByRecursion}
use Rattle.std.proofs.ByRecursion.{All-drop}
use Rattle.std.proofs.lemmas.Bool.{cond_both}
use Rattle.messages.specs.declared.message.Message.{Message}
use Rattle.registers.specs.Sets.{nobody}
use Rattle.links.specs.declared.lane.Lane.{Lane}
use Rattle.links.specs.View.{same_lane}
use Rattle.protocol.specs.declared.cell.Cell.TheVariants.{None as none}
use Rattle.protocol.specs.declared.firing.FiringKind.{FiringKind}
use Rattle.protocol.specs.declared.pages.HomeState.TheVariants.{R}
use Rattle.protocol.specs.declared.sizes.Sizes.{Sizes}
use Rattle.protocol.specs.declared.station.StationStep.{StationStep}
use Rattle.protocol.specs.Rules.{HomeStep}
use Rattle.protocol.specs.State.{State, Outcome, Posts, extents_of, posted, left_queue, left_lane, station_does, home_does, Fits, works, receives, collects, serves, Space}
use Rattle.coherence.proofs.Tables.{cell_station, cell_page, entry_other}

pub record Within {V : Type 0} (sizes : Sizes) (st : State V) : Type 0 where
  pub extents : st.extents ≡ extents_of sizes
  pub far_cell : (s p : ℕ) → sizes.stations ≤ s → st.cell s p ≡ none
  pub off_cell : (s p : ℕ) → sizes.pages ≤ p → st.cell s p ≡ none
  pub off_home : (p : ℕ) → sizes.pages ≤ p → (st.home p).state ≡ R nobody
  pub far_lane : (lane : Lane) (s : ℕ) → sizes.stations ≤ s → st.lane lane s ≡ []
  pub far_queue : (s : ℕ) → sizes.stations ≤ s → st.queue s ≡ []
  pub asks_in : (s : ℕ) → AllByRecursion (λ i. i.page < sizes.pages) (st.queue s)

-- a list that is not other than empty is empty
empty_list : {X : Type 0} (l : List X) → (l ≢ [] → ⊥) → l ≡ []
empty_list [] n = refl
empty_list (x ∷ l) n = absurd (n (λ e. cc))

module _ {V : Type 0} {sizes : Sizes} {st : State V} (w : Within sizes st) where
  -- where there is space for all that is posted, nothing is posted past the last station
  far_posts : (posts : Posts V) → ((lane : Lane) (t : ℕ) → posts lane t ≢ [] → (t < sizes.stations) × (length (st.lane lane t) < sizes.room)) → (lane : Lane) (t : ℕ) → sizes.stations ≤ t → posts lane t ≡ []
  far_posts posts space lane t h = empty_list (posts lane t) (λ n. let in' : t < sizes.stations = (space lane t n).0 in omega arith)

  far_left : (leaves : Bool) (from : Lane) (s : ℕ) (lane : Lane) (t : ℕ) → sizes.stations ≤ t → left_lane leaves from s st.lane lane t ≡ []
  unfolding left_lane
  far_left leaves from s lane t h = cond_both (leaves && (same_lane lane from && eqb t s)) (drop 1 (st.lane lane t)) (st.lane lane t) (λ l. l ≡ []) (λ _. rw (w.far_lane lane t h)) (λ _. w.far_lane lane t h)

  far_both : (f : Lane → ℕ → List (Message V)) (posts : Posts V) (lane : Lane) (t : ℕ) → f lane t ≡ [] → posts lane t ≡ [] → posted f posts lane t ≡ []
  unfolding posted
  far_both f posts lane t e g = rw (e, g)

  far_left_queue : (leaves : Bool) (s t : ℕ) → sizes.stations ≤ t → left_queue leaves s st.queue t ≡ []
  unfolding left_queue
  far_left_queue leaves s t h = cond_both (leaves && eqb t s) (drop 1 (st.queue t)) (st.queue t) (λ l. l ≡ []) (λ _. rw (w.far_queue t h)) (λ _. w.far_queue t h)

  left_asks_in : (leaves : Bool) (s t : ℕ) → AllByRecursion (λ i. i.page < sizes.pages) (left_queue leaves s st.queue t)
  unfolding left_queue
  left_asks_in leaves s t = cond_both (leaves && eqb t s) (drop 1 (st.queue t)) (st.queue t) (AllByRecursion (λ i. i.page < sizes.pages)) (λ _. All-drop _ 1 (st.queue t) (w.asks_in t)) (λ _. w.asks_in t)

  -- a station writes inside, and the home does
  station_within : (s p : ℕ) (step : StationStep V) (posts : Posts V) (left : State V) → s < sizes.stations → p < sizes.pages → left.extents ≡ extents_of sizes → left.home ≡ st.home → left.cell ≡ st.cell → ((lane : Lane) (t : ℕ) → sizes.stations ≤ t → left.lane lane t ≡ []) → ((t : ℕ) → sizes.stations ≤ t → left.queue t ≡ []) → ((t : ℕ) → AllByRecursion (λ i. i.page < sizes.pages) (left.queue t)) → ((lane : Lane) (t : ℕ) → sizes.stations ≤ t → posts lane t ≡ []) → Within sizes (station_does s p step posts left)
  station_within s p step posts left x z ext home cell lanes queues asks none-far =
      record {
        extents = ext;
        far_cell = λ t q h. let n : t ≢ s = omega arith in cell_station left.cell s p step.cell t q n ∙ ap (λ f. f t q) cell ∙ w.far_cell t q h;
        off_cell = λ t q h. let n : q ≢ p = omega arith in cell_page left.cell s p step.cell t q n ∙ ap (λ f. f t q) cell ∙ w.off_cell t q h;
        off_home = λ q h. ap (λ f. (f q).state) home ∙ w.off_home q h;
        far_lane = λ lane t h. far_both left.lane posts lane t (lanes lane t h) (none-far lane t h);
        far_queue = queues;
        asks_in = asks;
      }

  home_within : (from : Lane) (s p : ℕ) (step : HomeStep V) (posts : Posts V) (leaves : Bool) → p < sizes.pages → ((lane : Lane) (t : ℕ) → sizes.stations ≤ t → posts lane t ≡ []) → Within sizes (home_does p step posts (record { home = st.home; cell = st.cell; lane = left_lane leaves from s st.lane; queue = st.queue; extents = st.extents }))
  home_within from s p step posts leaves z none-far =
      record {
        extents = w.extents;
        far_cell = w.far_cell;
        off_cell = w.off_cell;
        off_home = λ q h. let n : q ≢ p = omega arith in ap (λ x. x.state) (entry_other st.home p step.page q n) ∙ w.off_home q h;
        far_lane = λ lane t h. far_both (left_lane leaves from s st.lane) posts lane t (far_left leaves from s lane t h) (none-far lane t h);
        far_queue = w.far_queue;
        asks_in = w.asks_in;
      }

  pub stays : {s : ℕ} {kind : FiringKind} {o : Outcome V} → Fits st s kind o → s < sizes.stations → o.page < sizes.pages → Space sizes st o → Within sizes o.after
  stays {s = s} (works {i = i} {step = does} e rule) x z space = station_within s i.page does _ _ x z w.extents refl refl w.far_lane (far_left_queue _ s) (left_asks_in _ s) (far_posts _ space)
  stays {s = s} (receives {m = m} {step = does} e rule) x z space = station_within s m.page does _ _ x z w.extents refl refl (far_left _ _ s) w.far_queue w.asks_in (far_posts _ space)
  stays {s = s} (collects {m = m} {step = does} e rule) x z space = home_within _ s m.page does _ _ z (far_posts _ space)
  stays {s = s} (serves {m = m} {step = does} e rule) x z space = home_within _ s m.page does _ _ z (far_posts _ space)
