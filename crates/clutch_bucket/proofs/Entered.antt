-- What an enter promises, from what its two parts did.
use Rattle.std.proofs.Common.{◌≡◌, ℕ, ◌+◌, ◌<◌, ◌≤◌, Bool, true, false, Option, Some, is_some, sym, ap, ◌∙◌, subst, arith}
use Rattle.std.proofs.lemmas.Bool.{cond_both}
use Rattle.flat_policy.specs.Policy.Moves.{turn_on_entering}
use Rattle.flat_policy.specs.Policy.Queue.{Flat, in_clutch}
use Rattle.flat_policy.specs.Policy.Usage.{Spans, with_spans}
use Rattle.link_arena.specs.Arena.{Arena, value_at}
use Rattle.pairing_heap.specs.Laws.{FirstIsLeast, HeldAreLive}
use Rattle.thread_queue.specs.Item.{entry_of, key_of_item, key_precedes}
use Rattle.thread_queue.specs.Laws.{PushedStaysApart}
use Rattle.thread_queue.specs.Queue.{HasSlot, LacksSlot, Queue}
use Rattle.thread_queue.specs.declared.item.Item.{Item}
use Rattle.clutch_bucket.specs.Lane.{Follows, HasLaneSlot, IsNew, LacksLaneSlot, Lane, LaneStands, MayEnter, OnlyQueuesChange, OtherQueuesStayBut, SameGroups, StaysFrom, UnitItem, groups, queue_at, rank_at, spans_at, top_at, unit_of, with_unit_entry}
use Rattle.clutch_bucket.specs.Renewing.{AddsSlot, renewed_turn, takes_turn, turned, with_renewed}
use Rattle.clutch_bucket.specs.declared.ranks.UnitKey.{UnitKey}
use Rattle.clutch_bucket.proofs.Apart.{stays_from}
use Rattle.clutch_bucket.proofs.Clutches.{clutch_in_lane, own_clutch}
use Rattle.clutch_bucket.proofs.Entering.{Enters, entered_follows, entered_lane, entered_stands, entered_turn, entry_is, grown, push_law}
use Rattle.clutch_bucket.proofs.Lanes.{groups_changed, queue_here}
use Rattle.clutch_bucket.proofs.Turns.{only_turns}
use Rattle.clutch_bucket.proofs.Units.{pushed_here}

pub fits_unit : (before : Lane) (g : ℕ) (item : Item) → g ≡ item.thread.group → MayEnter before item → UnitItem (unit_of before g) item
fits_unit before g item is may = record {
  within = subst (λ (i : ℕ). in_clutch (unit_of before i) (entry_of item) ≡ true) (sym is) (clutch_in_lane before.bucket (entry_of item) may.within);
  small = may.small;
  ran = may.ran;
  blocked = may.blocked;
}

pub enters_from : HeldAreLive 0 key_of_item key_precedes → FirstIsLeast 0 key_of_item key_precedes → PushedStaysApart → (old new : Arena Item) (before later : Lane) (g slot ran blocked : ℕ) (item : Item) → LaneStands old before → value_at old slot ≡ Some item → LacksLaneSlot old before slot
    → g ≡ item.thread.group → MayEnter before item → (adds : AddsSlot old new before later g slot ran blocked) → Enters old new before g slot item adds.queue
enters_from held first law old new before later g slot ran blocked item stands stored lacks is may adds = record {
  held = held;
  first = first;
  law = law;
  stands = stands;
  within = subst (λ (i : ℕ). i < groups before) (sym is) may.group;
  live = ap is_some stored;
  stored = stored;
  fits = fits_unit before g item is may;
  lacks = lacks;
  pushes = adds.pushes;
}

module _ (old new : Arena Item) (before later last : Lane) (g slot ran blocked turn : ℕ) (item : Item) (adds : AddsSlot old new before later g slot ran blocked) (e : Enters old new before g slot item adds.queue) (renewed : last ≡ with_renewed new false turn g later) where
  abbrev used : Spans
  used = with_spans (spans_at before g) ran blocked

  abbrev mid : Lane
  mid = entered_lane before g adds.queue used

  last_is : last ≡ with_renewed new false turn g mid
  last_is = renewed ∙ ap (with_renewed new false turn g) adds.is

  pub enter_stands : LaneStands new last
  enter_stands = subst (LaneStands new) (sym last_is) (entered_stands old new before g slot item adds.queue used e false turn)

  pub enter_has : HasLaneSlot new last slot
  enter_has =
      subst (λ (l : Lane). HasLaneSlot new l slot) (sym last_is) (
        g,
        (
          subst (λ (m : ℕ). g < m) (sym (groups_changed before g adds.queue used (before.len + 1))) e.within,
          subst (λ (q : Queue). HasSlot new q slot) (sym (queue_here before g adds.queue used (before.len + 1) e.within)) (pushed_here old new (queue_at before g) adds.queue slot e.pushes),
        ),
      )

  pub enter_len : last.len ≡ before.len + 1
  enter_len = ap (λ (l : Lane). l.len) last_is

  pub enter_groups : SameGroups before last
  enter_groups = record {
    bucket = ap (λ (l : Lane). l.bucket) last_is;
    groups = ap groups last_is ∙ groups_changed before g adds.queue used (before.len + 1);
  }

  pub enter_arena : OnlyQueuesChange old new
  enter_arena = record {
    values = e.pushes.adds.kept.values;
    second = λ s. e.pushes.adds.kept.other_set 1 s (λ same. omega (arith, same));
    spare = e.pushes.adds.kept.spare;
  }

  pub enter_queues : OtherQueuesStayBut old new before last slot
  enter_queues = λ other there apart lacks.
      let kept = stays_from (λ (q : Queue). LacksSlot old q slot) old new before g adds.queue used (before.len + 1) e.held e.stands.units e.within (push_law old new before g slot item adds.queue used e) e.lacks other lacks there apart in
      subst (λ (l : Lane). StaysFrom old new l other) (sym last_is) (record { stays = kept.stays; apart = kept.apart })

  pub enter_follows : (s : Flat) (after : ℕ) → turn ≡ s.next_turn → after ≡ renewed_turn false turn (rank_at later g) (top_at new later g) → IsNew s item → Follows old before s
      → Follows new last (with_unit_entry ran blocked item s) × (after ≡ (with_unit_entry ran blocked item s).next_turn)
  enter_follows s after same rises fresh f =
      let k = unit_of before g in
      let x = grown k (entry_of item) used s in
      let flat = turned false (rank_at before g) (top_at new mid g) k x in
      let own = own_clutch k (entry_of item) e.fits.within in
      let is : with_unit_entry ran blocked item s ≡ flat =
      entry_is ran blocked item s k own
      ∙ (ap (λ (u : Spans). turn_on_entering s k (grown k (entry_of item) (with_spans u ran blocked) s)) (f.units.each g e.within).spans
      ∙ entered_turn old new before g slot item adds.queue used e s f fresh) in
      let follows = subst (λ (t : ℕ). Follows new (with_renewed new false t g mid) flat) (sym same) (entered_follows old new before g slot item adds.queue used e s f fresh) in (
        subst (λ (y : Flat). Follows new last y) (sym is) (subst (λ (l : Lane). Follows new l flat) (sym last_is) follows),
        rises ∙ (ap (λ (l : Lane). renewed_turn false turn (rank_at l g) (top_at new l g)) adds.is
            ∙ (ap (λ (t : ℕ). renewed_turn false t (rank_at before g) (top_at new mid g)) same
            ∙ (sym (only_turns false (rank_at before g) (top_at new mid g) k x).next ∙ ap (λ (y : Flat). y.next_turn) (sym is)))),
      )

-- the next turn rises by one at the most
pub rises_by : (picked : Bool) (turn after : ℕ) (rank : Option UnitKey) (top : Option ℕ) → after ≡ renewed_turn picked turn rank top → (turn ≤ after) × (after ≤ turn + 1)
rises_by picked turn after rank top is =
    cond_both (takes_turn picked rank top) (turn + 1) turn (λ (n : ℕ). after ≡ n → (turn ≤ after) × (after ≤ turn + 1))
    (λ h same. (omega (arith, same), omega (arith, same))) (λ h same. (omega (arith, same), omega (arith, same))) is
