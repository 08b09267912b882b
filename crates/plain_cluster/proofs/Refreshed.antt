-- The queue after a refresh.
use Rattle.std.specs.List.{list_any}
use Rattle.std.proofs.Common.{◌≡◌, ℕ, List, filter, map, sym, ap, ◌∙◌}
use Rattle.sched_base.specs.declared.Bucket.{Bucket}
use Rattle.sched_base.specs.declared.Bucket.TheVariants.{Bg, Df, Fg, Ini, Ut}
use Rattle.flat_policy.specs.Laws.Refreshing.{RefreshesByBucket, with_turns_of}
use Rattle.flat_policy.specs.Policy.Precedence.{greatest_pri}
use Rattle.flat_policy.specs.Policy.Queue.{Flat, LaneState, Queued, has_entries, in_clutch, in_lane}
use Rattle.flat_policy.specs.Policy.Refresh.{refreshed, with_new_prices}
use Rattle.plain_cluster.specs.Entries.{RowList, UnitList, entries_of}
use Rattle.plain_cluster.specs.Queues.{FlagsFollow, IsQueue, flat_of}
use Rattle.plain_cluster.specs.Repricing.{CountsAre, TopsAre, priced}
use Rattle.plain_cluster.specs.declared.counts.Counts.{Counts}
use Rattle.plain_cluster.specs.declared.queue.Queue.{Queue}
use Rattle.plain_cluster.proofs.Flags.{map_alike}
use Rattle.plain_cluster.proofs.Repriced.{lanes_alike, priced_are}

-- the turns of one bucket were renewed
pub record Renews (q n : Queue) (before after : List (List ℕ)) (b : Bucket) : Type 0 where
  pub queue : n ≡ record q { units = n.units }
  pub spans : n.units.spans ≡ q.units.spans
  pub turns : (groups : ℕ) (s : Flat) → q.groups ≡ groups → TopsAre s before → TopsAre (flat_of q) after → s.spans ≡ q.units.spans → flat_of n ≡ with_turns_of groups s (flat_of q) b

-- the queue with new prices
pub new_prices : (q : Queue) (counts : Counts) (now : ℕ) (rows : RowList) → CountsAre (flat_of q) counts → rows.rows ≡ map (priced counts now) q.rows.rows
    → flat_of (record q { rows = rows; last = now }) ≡ with_new_prices (flat_of q) now
new_prices q counts now rows are new =
    ap (λ (es : List Queued). record (flat_of q) { entries = es; last = now })
    (ap entries_of new ∙ priced_are (flat_of q) counts now q.rows.rows are)

-- the greatest priorities are those of the rows
tops_stay : (q n : Queue) (tops : List (List ℕ)) → n.rows ≡ q.rows → TopsAre (flat_of q) tops → TopsAre (flat_of n) tops
tops_stay q n tops same are = λ k. are k ∙ ap (λ (r : RowList). greatest_pri (filter (in_clutch k) (entries_of r.rows))) (sym same)

-- five buckets renew their turns, one after the other
pub renewed : RefreshesByBucket → (q a b c d e f : Queue) (before after : List (List ℕ)) (now : ℕ) → TopsAre (flat_of q) before → TopsAre (flat_of a) after → a.groups ≡ q.groups → a.units ≡ q.units → flat_of a ≡ with_new_prices (flat_of q) now
    → Renews a b before after Fg → Renews b c before after Ini → Renews c d before after Df → Renews d e before after Ut → Renews e f before after Bg → flat_of f ≡ refreshed q.groups (flat_of q) now
renewed law q a b c d e f before after now were are ga ua first fg ini df ut bg =
    let g = q.groups in
    let s = flat_of q in
    let gb = ap (λ (x : Queue). x.groups) fg.queue ∙ ga in
    let gc = ap (λ (x : Queue). x.groups) ini.queue ∙ gb in
    let gd = ap (λ (x : Queue). x.groups) df.queue ∙ gc in
    let ge = ap (λ (x : Queue). x.groups) ut.queue ∙ gd in
    let sa : s.spans ≡ a.units.spans = ap (λ (u : UnitList). u.spans) (sym ua) in
    let sb = sa ∙ sym fg.spans in
    let sc = sb ∙ sym ini.spans in
    let sd = sc ∙ sym df.spans in
    let se = sd ∙ sym ut.spans in
    let tb = tops_stay a b after (ap (λ (x : Queue). x.rows) fg.queue) are in
    let tc = tops_stay b c after (ap (λ (x : Queue). x.rows) ini.queue) tb in
    let td = tops_stay c d after (ap (λ (x : Queue). x.rows) df.queue) tc in
    let te = tops_stay d e after (ap (λ (x : Queue). x.rows) ut.queue) td in
    bg.turns g s ge were te se
    ∙ (ap (λ x. with_turns_of g s x Bg) (ut.turns g s gd were td sd
    ∙ (ap (λ x. with_turns_of g s x Ut) (df.turns g s gc were tc sc
    ∙ (ap (λ x. with_turns_of g s x Df) (ini.turns g s gb were tb sb
    ∙ (ap (λ x. with_turns_of g s x Ini) (fg.turns g s ga were are sa
    ∙ ap (λ x. with_turns_of g s x Fg) first)))))))
    ∙ sym (law g s now))

-- all but the units is as with new prices
pub kept_by : (a b c d e f : Queue) (before after : List (List ℕ)) → Renews a b before after Fg → Renews b c before after Ini → Renews c d before after Df → Renews d e before after Ut → Renews e f before after Bg → f ≡ record a { units = f.units }
kept_by a b c d e f before after fg ini df ut bg =
    bg.queue
    ∙ ap (λ (x : Queue). record x { units = f.units })
    (ut.queue ∙ ap (λ (x : Queue). record x { units = e.units })
    (df.queue ∙ ap (λ (x : Queue). record x { units = d.units })
    (ini.queue ∙ ap (λ (x : Queue). record x { units = c.units }) fg.queue)))

-- the flags still follow
pub flags_priced : (q : Queue) (counts : Counts) (now : ℕ) (rows : RowList) (u : UnitList) → IsQueue q.groups q → CountsAre (flat_of q) counts → rows.rows ≡ map (priced counts now) q.rows.rows
    → FlagsFollow (record q { rows = rows; last = now; units = u })
flags_priced q counts now rows u k are new =
    k.flags
    ∙ map_alike (λ (l : LaneState). has_entries (flat_of q) l.lane) (λ (l : LaneState). has_entries (flat_of (record q { rows = rows; last = now; units = u })) l.lane) q.windows.lanes
    (λ l. sym (ap (λ (es : List Queued). list_any (in_lane l.lane) es) (ap entries_of new ∙ priced_are (flat_of q) counts now q.rows.rows are)
    ∙ lanes_alike (flat_of q) now l.lane (entries_of q.rows.rows)))
