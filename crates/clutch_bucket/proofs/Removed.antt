-- A unit that lost a slot has the entries that remain.
use Rattle.std.proofs.Common.{◌≡◌, ◌≢◌, ℕ, ◌==◌, not, Contains, List, Some, filter, length, sym, ap, ◌∙◌, subst, arith}
use Rattle.std.proofs.lemmas.Bool.{eqb-false, ne_eqb, not-true, not_from_false}
use Rattle.flat_policy.specs.Policy.Moves.{without}
use Rattle.flat_policy.specs.Policy.Queue.{Clutch, Flat, Queued, clutch_entries, in_clutch, spans_of}
use Rattle.flat_policy.specs.Policy.Usage.{Spans}
use Rattle.flat_policy.specs.Policy.WellFormed.{ArrivalsRise}
use Rattle.link_arena.specs.Arena.{Arena, value_at}
use Rattle.thread_queue.specs.Item.{entry_of}
use Rattle.thread_queue.specs.Queue.{HasSlot, LacksSlot, Queue, Removes}
use Rattle.thread_queue.specs.declared.item.Item.{Item}
use Rattle.clutch_bucket.specs.Lane.{UnitFollows}
use Rattle.clutch_bucket.proofs.Arrivals.{one_less}
use Rattle.clutch_bucket.proofs.Members.{filter_member, member_of_filter}
use Rattle.clutch_bucket.proofs.Units.{not_both, one_item, remained, remains}

pub follows_removed : (old new : Arena Item) (queue later : Queue) (spans : Spans) (slot : ℕ) (item : Item) (s next : Flat) (k : Clutch) → Removes old new queue later slot → LacksSlot new later slot → HasSlot old queue slot → value_at old slot ≡ Some item
    → ArrivalsRise s.entries → next.entries ≡ without item.arrival s.entries → spans_of next k ≡ spans_of s k
    → UnitFollows old queue spans s k → UnitFollows new later spans next k
follows_removed old new queue later spans slot item s next k removes lacks held stored rise are is follows =
    let value = λ (other : ℕ) (rival : Item) (there : value_at new other ≡ Some rival). sym (removes.takes.kept.values other) ∙ there in
    let before = λ (other : ℕ) (h : HasSlot new later other). remained old new queue later slot other removes h in
    let entries : clutch_entries next k ≡ filter (in_clutch k) (without item.arrival s.entries) = ap (filter (in_clutch k)) are in
    let stays = λ (f : Queued). not (f.arrival == item.arrival) in
    let mine = filter_member (in_clutch k) s.entries (entry_of item) (follows.entries.there slot item held stored) in
    record {
      entries = record {
        there = λ other rival has there. (
            let member = filter_member (in_clutch k) s.entries (entry_of rival) (follows.entries.there other rival (before other has) (value other rival there)) in
            let differ = ne_eqb rival.arrival item.arrival (λ alike.
            not_both new later slot
            (subst (HasSlot new later) (follows.apart other slot rival item (before other has) held (value other rival there) stored alike) has) lacks) in
            subst (λ (es : List Queued). Contains es (entry_of rival)) (sym entries)
            (member_of_filter (in_clutch k) (without item.arrival s.entries) (entry_of rival)
            (member_of_filter stays s.entries (entry_of rival) member.0 (not_from_false (rival.arrival == item.arrival) differ)) member.1));
        back = λ entry c. (
            let outer = filter_member (in_clutch k) (without item.arrival s.entries) entry (subst (λ (es : List Queued). Contains es entry) entries c) in
            let inner = filter_member stays s.entries entry outer.0 in
            let from = follows.entries.back entry (member_of_filter (in_clutch k) s.entries entry inner.0 outer.1) in
            let other : slot ≢ from.0 = λ e. (
            let same = one_item old from.0 item from.1 (ap (value_at old) (sym e) ∙ stored) from.2.1 in
            eqb-false entry.arrival item.arrival (not-true (entry.arrival == item.arrival) inner.1)
            (ap (λ (q : Queued). q.arrival) (sym from.2.2) ∙ ap (λ (i : Item). i.arrival) (sym same))) in
            (from.0, from.1, (remains old new queue later slot from.0 removes other from.2.0, removes.takes.kept.values from.0 ∙ from.2.1, from.2.2)));
      };
      count = (
          let less = one_less (in_clutch k) s.entries rise (entry_of item) mine.0 mine.1 in
          let same = ap (λ (es : List Queued). length es) entries in
          let count = removes.count in
          let were = follows.count in
          omega (arith, less, same, count, were));
      apart = λ one two x y hx hy vx vy alike. follows.apart one two x y (before one hx) (before two hy) (value one x vx) (value two y vy) alike;
      spans = is ∙ follows.spans;
    }
