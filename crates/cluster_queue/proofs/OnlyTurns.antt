-- A queue that differs from another by the turn of one clutch bucket, and by the next turn.
use Rattle.std.proofs.Common.{◌≡◌, ◌≢◌, ◌==◌, ◌||◌, Bool, cond, not, None, Some, length, refl}
use Rattle.std.proofs.lemmas.Bool.{cond_both}
use Rattle.std.proofs.lemmas.List.{get_or-set_other, length-set}
use Rattle.flat_policy.specs.Policy.Refresh.{turn_on_refresh}
use Rattle.flat_policy.specs.Policy.Moves.{clutch_has_entries, turn_on_entering, turn_on_leaving, turn_on_selection, with_next_turn, without, without_turn}
use Rattle.flat_policy.specs.Policy.Precedence.{clutch_priority}
use Rattle.flat_policy.specs.Policy.Queue.{Clutch, Flat, clutch_of, clutch_place, turn_of}
use Rattle.thread_queue.specs.declared.item.Item.{Item}
use Rattle.clutch_bucket.specs.Lane.{without_unit_entry}

-- entries and spans stay, and so do the turns of other places
pub record OnlyTurns (k : Clutch) (x y : Flat) : Type 0 where
  pub entries : y.entries ≡ x.entries
  pub spans : y.spans ≡ x.spans
  pub places : length y.turns ≡ length x.turns
  pub others : (l : Clutch) → clutch_place l ≢ clutch_place k → turn_of y l ≡ turn_of x l

module _ (k : Clutch) (x : Flat) where
  turn_stays : OnlyTurns k x x
  turn_stays = record { entries = refl; spans = refl; places = refl; others = λ l n. refl }

  turn_taken : OnlyTurns k x (with_next_turn k x)
  turn_taken = record {
    entries = refl;
    spans = refl;
    places = length-set x.turns (clutch_place k) (Some x.next_turn);
    others = λ l n. get_or-set_other x.turns (clutch_place k) (clutch_place l) (Some x.next_turn) None n;
  }

  turn_lost : OnlyTurns k x (without_turn k x)
  turn_lost = record {
    entries = refl;
    spans = refl;
    places = length-set x.turns (clutch_place k) None;
    others = λ l n. get_or-set_other x.turns (clutch_place k) (clutch_place l) None None n;
  }

  -- so it is by the rules of entering, of selection and of leaving
  pub turns_on_entering : (before : Flat) → OnlyTurns k x (turn_on_entering before k x)
  turns_on_entering before =
      cond_both (not (clutch_has_entries before k) || not (clutch_priority before k == clutch_priority x k)) (with_next_turn k x) x (OnlyTurns k x)
      (λ e. turn_taken) (λ e. turn_stays)

  pub turns_on_selection : OnlyTurns k x (turn_on_selection k x)
  turns_on_selection = cond_both (clutch_has_entries x k) (with_next_turn k x) (without_turn k x) (OnlyTurns k x) (λ e. turn_taken) (λ e. turn_lost)

  pub turns_on_leaving : (before : Flat) → OnlyTurns k x (turn_on_leaving before k x)
  turns_on_leaving before =
      let same = clutch_priority before k == clutch_priority x k in
      cond_both (not (clutch_has_entries x k)) (without_turn k x) (cond same x (with_next_turn k x)) (OnlyTurns k x)
      (λ e. turn_lost)
      (λ e. cond_both same x (with_next_turn k x) (OnlyTurns k x) (λ f. turn_stays) (λ f. turn_taken))

  -- and of a refresh
  pub turns_on_refresh : (before : Flat) → OnlyTurns k x (turn_on_refresh before x k)
  turns_on_refresh before =
      cond_both (clutch_priority before k == clutch_priority x k) x (with_next_turn k x) (OnlyTurns k x) (λ e. turn_stays) (λ e. turn_taken)

-- and where an unbound item leaves
pub turns_left : (picked : Bool) (item : Item) (s : Flat) → OnlyTurns (clutch_of item.thread) (record s { entries = without item.arrival s.entries }) (without_unit_entry picked item s)
turns_left picked item s =
    let k = clutch_of item.thread in
    let x : Flat = record s { entries = without item.arrival s.entries } in
    cond_both picked (turn_on_selection k x) (turn_on_leaving s k x) (OnlyTurns k x) (λ e. turns_on_selection k x) (λ e. turns_on_leaving k x s)
