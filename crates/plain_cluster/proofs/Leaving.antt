-- What is left when an entry leaves.
use Rattle.std.proofs.Common.{◌≡◌, ◌≢◌, eq-eqb, ℕ, suc, ◌+◌, ◌<◌, ◌==◌, Bool, true, false, not, cond, List, ◌++◌, drop, get_or, length, map, set, take, Some, None, is_some, refl, sym, ap, ap₂, ◌∙◌, subst, arith}
use Rattle.std.specs.List.{drop-map, list_any, remove, slice_get, take-map}
use Rattle.std.proofs.lemmas.Bool.{cond-false, cond-true, ne_eqb}
use Rattle.std.proofs.lemmas.List.{length-map, map-append}
use Rattle.std.proofs.lemmas.Option.{get_or_from_slice_get, slice_get-map, slice_get_within}
use Rattle.sched_base.specs.declared.Facts.{Facts}
use Rattle.flat_policy.specs.Laws.Clusters.{EntriesLeaveByPlace}
use Rattle.flat_policy.specs.Policy.Moves.{clutch_has_entries, removed, removed_by_selection, turn_on_leaving, turn_on_selection, with_next_turn, without_entry, without_turn}
use Rattle.flat_policy.specs.Policy.Precedence.{clutch_priority}
use Rattle.flat_policy.specs.Policy.Queue.{Clutch, Flat, LaneState, Queued, clutch_of, clutch_place, in_lane, lane_of, same_lane}
use Rattle.windows.specs.Flags.{FillingFollows}
use Rattle.windows.specs.WindowStates.{with_flag}
use Rattle.plain_cluster.specs.Entries.{RowList, Slotted, UnitList, entries_of, entry_at, slots_of}
use Rattle.plain_cluster.specs.Queues.{FlagsFollow, IsQueue, TakesOut, flat_of}
use Rattle.plain_cluster.specs.declared.queue.Queue.{Queue}
use Rattle.plain_cluster.proofs.Flags.{flag_already, flag_left, flag_there, map_alike}
use Rattle.plain_cluster.proofs.Slots.{entry_is, mapped_some, slots_removed}

-- the entries of rows, when one is taken out
pub entries_removed : (rows : List Slotted) (i : ℕ) → entries_of (remove rows i) ≡ remove (entries_of rows) i
entries_removed rows i =
    map-append (λ (r : Slotted). r.entry) (take i rows) (drop (suc i) rows)
    ∙ (ap (λ xs. xs ++ entries_of (drop (suc i) rows)) (sym (take-map (λ (r : Slotted). r.entry) i rows))
    ∙ ap (λ xs. take i (entries_of rows) ++ xs) (sym (drop-map (λ (r : Slotted). r.entry) (suc i) rows)))

-- the entry at a place, as entries are read
pub read_there : (rows : List Slotted) (i : ℕ) (e : Queued) → entry_at rows (Some i) ≡ Some e → (i < length (entries_of rows)) × (get_or (entries_of rows) i e ≡ e)
read_there rows i e h =
    let found = mapped_some (λ (r : Slotted). r.entry) (slice_get rows i) e h in
    let within = slice_get_within rows i found.0 found.1 in (
      omega (arith, within, length-map rows (λ (r : Slotted). r.entry)),
      get_or_from_slice_get (entries_of rows) i e e (slice_get-map (λ (r : Slotted). r.entry) rows i ∙ h),
    )

-- the flags after an entry left its lane empty
pub flags_emptied : FillingFollows → (q : Queue) (i : ℕ) (e : Queued) (has : Bool) → FlagsFollow q → entry_at q.rows.rows (Some i) ≡ Some e
    → list_any (in_lane (lane_of e.facts)) (remove (entries_of q.rows.rows) i) ≡ has
    → with_flag (lane_of e.facts) has q.windows.lanes q.windows.filled ≡ map (λ (l : LaneState). list_any (in_lane l.lane) (remove (entries_of q.rows.rows) i)) q.windows.lanes
flags_emptied law q i e has follow h is =
    let es = entries_of q.rows.rows in
    let r = read_there q.rows.rows i e h in
    ap (with_flag (lane_of e.facts) has q.windows.lanes) follow
    ∙ (law (λ m. list_any (in_lane m) es) (lane_of e.facts) has q.windows.lanes
    ∙ map_alike (λ (l : LaneState). cond (same_lane l.lane (lane_of e.facts)) has (list_any (in_lane l.lane) es))
    (λ (l : LaneState). list_any (in_lane l.lane) (remove es i)) q.windows.lanes
    (λ l. sym (flag_left es i e has r.0 r.1 is l.lane)))

-- and where its lane has others
pub flags_kept : (q : Queue) (i : ℕ) (e : Queued) → FlagsFollow q → entry_at q.rows.rows (Some i) ≡ Some e
    → list_any (in_lane (lane_of e.facts)) (remove (entries_of q.rows.rows) i) ≡ true
    → q.windows.filled ≡ map (λ (l : LaneState). list_any (in_lane l.lane) (remove (entries_of q.rows.rows) i)) q.windows.lanes
flags_kept q i e follow h is =
    let es = entries_of q.rows.rows in
    let r = read_there q.rows.rows i e h in
    follow ∙ map_alike (λ (l : LaneState). list_any (in_lane l.lane) es) (λ (l : LaneState). list_any (in_lane l.lane) (remove es i)) q.windows.lanes
    (λ l. flag_already (λ m. list_any (in_lane m) es) (lane_of e.facts) (flag_there es i e r.0 r.1) l.lane ∙ sym (flag_left es i e true r.0 r.1 is l.lane))

-- the queue without its entry
pub takes_out : EntriesLeaveByPlace → (groups : ℕ) (q : Queue) (i : ℕ) (rows : RowList) (fs : List Bool) (now : ℕ) (e : Queued) → IsQueue groups q → entry_at q.rows.rows (Some i) ≡ Some e
    → rows.rows ≡ remove q.rows.rows i → rows.spare ≡ q.rows.spare + 1
    → fs ≡ map (λ (l : LaneState). list_any (in_lane l.lane) (remove (entries_of q.rows.rows) i)) q.windows.lanes
    → TakesOut q (record q { rows = rows; windows = record q.windows { filled = fs }; last = now }) e (without_entry e now (flat_of q))
takes_out law groups q i rows fs now e k h left more follow =
    let es = entries_of q.rows.rows in
    let ks = slots_of q.rows.rows in
    let r = read_there q.rows.rows i e h in
    let long : length ks ≡ length es = length-map q.rows.rows (λ (r : Slotted). r.slot) ∙ sym (length-map q.rows.rows (λ (r : Slotted). r.entry)) in
    let out = law es ks e i k.formed.arrivals_rise long r.0 r.1 in
    let entries : entries_of rows.rows ≡ remove es i = ap entries_of left ∙ entries_removed q.rows.rows i in
    record {
      flat = ap (λ (xs : List Queued). record (flat_of q) { entries = xs; last = now }) (entries ∙ sym out.entries);
      slots = ap slots_of left ∙ slots_removed q.rows.rows i ∙ sym out.slots;
      spare = more;
      flags = follow ∙ ap (λ (xs : List Queued). map (λ (l : LaneState). list_any (in_lane l.lane) xs) q.windows.lanes) (sym entries);
      times = refl;
      groups = refl;
    }

-- then its clutch bucket takes the next turn, or loses its own
pub takes_turn : (q n : Queue) (e : Queued) (s : Flat) (k : Clutch) → TakesOut q n e s
    → TakesOut q (record n { units = record n.units { turns = set n.units.turns (clutch_place k) (Some n.units.next_turn); next_turn = n.units.next_turn + 1 } }) e (with_next_turn k s)
takes_turn q n e s k t = record { flat = ap (with_next_turn k) t.flat; slots = t.slots; spare = t.spare; flags = t.flags; times = t.times; groups = t.groups }

pub loses_turn : (q n : Queue) (e : Queued) (s : Flat) (k : Clutch) → TakesOut q n e s
    → TakesOut q (record n { units = record n.units { turns = set n.units.turns (clutch_place k) None } }) e (without_turn k s)
loses_turn q n e s k t = record { flat = ap (without_turn k) t.flat; slots = t.slots; spare = t.spare; flags = t.flags; times = t.times; groups = t.groups }

pub as_flat : (q n : Queue) (e : Queued) (s r : Flat) → s ≡ r → TakesOut q n e s → TakesOut q n e r
as_flat q n e s r same t = subst (TakesOut q n e) same t

-- what a removal comes to
pub removed_bound : (e : Queued) (now : ℕ) (s : Flat) → is_some e.facts.bound ≡ true → without_entry e now s ≡ removed e now s
removed_bound e now s b = sym (cond-true (is_some e.facts.bound) (without_entry e now s) (turn_on_leaving s (clutch_of e.facts) (without_entry e now s)) b)

removed_free : (e : Queued) (now : ℕ) (s : Flat) → is_some e.facts.bound ≡ false → removed e now s ≡ turn_on_leaving s (clutch_of e.facts) (without_entry e now s)
removed_free e now s b = cond-false (is_some e.facts.bound) (without_entry e now s) (turn_on_leaving s (clutch_of e.facts) (without_entry e now s)) b

leaving_by : Flat → Clutch → Flat → Bool → Bool → Flat
leaving_by before k s has same = cond (not has) (without_turn k s) (cond same s (with_next_turn k s))

pub removed_last : (e : Queued) (now : ℕ) (s : Flat) → is_some e.facts.bound ≡ false → clutch_has_entries (without_entry e now s) (clutch_of e.facts) ≡ false
    → without_turn (clutch_of e.facts) (without_entry e now s) ≡ removed e now s
unfolding leaving_by
removed_last e now s b none =
    let x = without_entry e now s in
    let k = clutch_of e.facts in
    sym (removed_free e now s b ∙ ap (λ h. leaving_by s k x h (clutch_priority s k == clutch_priority x k)) none)

pub removed_same : (e : Queued) (now : ℕ) (s : Flat) → is_some e.facts.bound ≡ false → clutch_has_entries (without_entry e now s) (clutch_of e.facts) ≡ true
    → (clutch_priority s (clutch_of e.facts) == clutch_priority (without_entry e now s) (clutch_of e.facts)) ≡ true
    → without_entry e now s ≡ removed e now s
unfolding leaving_by
removed_same e now s b some same =
    let x = without_entry e now s in
    let k = clutch_of e.facts in
    sym (removed_free e now s b ∙ ap₂ (leaving_by s k x) some same)

pub removed_other : (e : Queued) (now : ℕ) (s : Flat) → is_some e.facts.bound ≡ false → clutch_has_entries (without_entry e now s) (clutch_of e.facts) ≡ true
    → (clutch_priority s (clutch_of e.facts) == clutch_priority (without_entry e now s) (clutch_of e.facts)) ≡ false
    → with_next_turn (clutch_of e.facts) (without_entry e now s) ≡ removed e now s
unfolding leaving_by
removed_other e now s b some other =
    let x = without_entry e now s in
    let k = clutch_of e.facts in
    sym (removed_free e now s b ∙ ap₂ (leaving_by s k x) some other)

-- what a selection comes to
pub selected_bound : (e : Queued) (now : ℕ) (s : Flat) → is_some e.facts.bound ≡ true → without_entry e now s ≡ removed_by_selection e now s
selected_bound e now s b = sym (cond-true (is_some e.facts.bound) (without_entry e now s) (turn_on_selection (clutch_of e.facts) (without_entry e now s)) b)

selected_free : (e : Queued) (now : ℕ) (s : Flat) → is_some e.facts.bound ≡ false → removed_by_selection e now s ≡ turn_on_selection (clutch_of e.facts) (without_entry e now s)
selected_free e now s b = cond-false (is_some e.facts.bound) (without_entry e now s) (turn_on_selection (clutch_of e.facts) (without_entry e now s)) b

pub selected_more : (e : Queued) (now : ℕ) (s : Flat) → is_some e.facts.bound ≡ false → clutch_has_entries (without_entry e now s) (clutch_of e.facts) ≡ true
    → with_next_turn (clutch_of e.facts) (without_entry e now s) ≡ removed_by_selection e now s
selected_more e now s b some =
    let x = without_entry e now s in
    let k = clutch_of e.facts in
    sym (selected_free e now s b ∙ cond-true (clutch_has_entries x k) (with_next_turn k x) (without_turn k x) some)

pub selected_last : (e : Queued) (now : ℕ) (s : Flat) → is_some e.facts.bound ≡ false → clutch_has_entries (without_entry e now s) (clutch_of e.facts) ≡ false
    → without_turn (clutch_of e.facts) (without_entry e now s) ≡ removed_by_selection e now s
selected_last e now s b none =
    let x = without_entry e now s in
    let k = clutch_of e.facts in
    sym (selected_free e now s b ∙ cond-false (clutch_has_entries x k) (with_next_turn k x) (without_turn k x) none)

-- a removal by what its clutch bucket has then
pub leaves_last : (q n : Queue) (e : Queued) (now : ℕ) (k : Clutch) (u : UnitList) → TakesOut q n e (without_entry e now (flat_of q)) → k ≡ clutch_of e.facts → is_some e.facts.bound ≡ false
    → clutch_has_entries (flat_of n) k ≡ false → u ≡ record n.units { turns = set n.units.turns (clutch_place k) None } → TakesOut q (record n { units = u }) e (removed e now (flat_of q))
leaves_last q n e now k u t is free none units =
    let x = without_entry e now (flat_of q) in
    subst (λ (v : UnitList). TakesOut q (record n { units = v }) e (removed e now (flat_of q))) (sym units)
    (as_flat q (record n { units = record n.units { turns = set n.units.turns (clutch_place k) None } }) e (without_turn k x) (removed e now (flat_of q))
    (ap (λ j. without_turn j x) is ∙ removed_last e now (flat_of q) free (ap₂ clutch_has_entries (sym t.flat) (sym is) ∙ none))
    (loses_turn q n e x k t))

same_by : (q n : Queue) (e : Queued) (now : ℕ) (k : Clutch) (a b : ℕ) → TakesOut q n e (without_entry e now (flat_of q)) → k ≡ clutch_of e.facts → a ≡ clutch_priority (flat_of q) k → b ≡ clutch_priority (flat_of n) k
    → (clutch_priority (flat_of q) (clutch_of e.facts) == clutch_priority (without_entry e now (flat_of q)) (clutch_of e.facts)) ≡ (a == b)
same_by q n e now k a b t is before after =
    ap₂ (λ i j. i == j) (ap (clutch_priority (flat_of q)) (sym is) ∙ sym before) (ap₂ clutch_priority (sym t.flat) (sym is) ∙ sym after)

pub leaves_same : (q n : Queue) (e : Queued) (now : ℕ) (k : Clutch) (a b : ℕ) → TakesOut q n e (without_entry e now (flat_of q)) → k ≡ clutch_of e.facts → is_some e.facts.bound ≡ false
    → clutch_has_entries (flat_of n) k ≡ true → a ≡ clutch_priority (flat_of q) k → b ≡ clutch_priority (flat_of n) k → a ≡ b → TakesOut q n e (removed e now (flat_of q))
leaves_same q n e now k a b t is free some before after same =
    as_flat q n e (without_entry e now (flat_of q)) (removed e now (flat_of q))
    (removed_same e now (flat_of q) free (ap₂ clutch_has_entries (sym t.flat) (sym is) ∙ some) (same_by q n e now k a b t is before after ∙ eq-eqb a b same)) t

pub leaves_other : (q n : Queue) (e : Queued) (now : ℕ) (k : Clutch) (a b : ℕ) (u : UnitList) → TakesOut q n e (without_entry e now (flat_of q)) → k ≡ clutch_of e.facts → is_some e.facts.bound ≡ false
    → clutch_has_entries (flat_of n) k ≡ true → a ≡ clutch_priority (flat_of q) k → b ≡ clutch_priority (flat_of n) k → a ≢ b
    → u ≡ record n.units { turns = set n.units.turns (clutch_place k) (Some n.units.next_turn); next_turn = n.units.next_turn + 1 } → TakesOut q (record n { units = u }) e (removed e now (flat_of q))
leaves_other q n e now k a b u t is free some before after differ units =
    let x = without_entry e now (flat_of q) in
    subst (λ (v : UnitList). TakesOut q (record n { units = v }) e (removed e now (flat_of q))) (sym units)
    (as_flat q (record n { units = record n.units { turns = set n.units.turns (clutch_place k) (Some n.units.next_turn); next_turn = n.units.next_turn + 1 } }) e (with_next_turn k x) (removed e now (flat_of q))
    (ap (λ j. with_next_turn j x) is ∙ removed_other e now (flat_of q) free (ap₂ clutch_has_entries (sym t.flat) (sym is) ∙ some) (same_by q n e now k a b t is before after ∙ ne_eqb a b differ))
    (takes_turn q n e x k t))

-- a selection by what its clutch bucket has then
pub selects_more : (q n : Queue) (e : Queued) (now : ℕ) (k : Clutch) (u : UnitList) → TakesOut q n e (without_entry e now (flat_of q)) → k ≡ clutch_of e.facts → is_some e.facts.bound ≡ false
    → clutch_has_entries (flat_of n) k ≡ true → u ≡ record n.units { turns = set n.units.turns (clutch_place k) (Some n.units.next_turn); next_turn = n.units.next_turn + 1 } → TakesOut q (record n { units = u }) e (removed_by_selection e now (flat_of q))
selects_more q n e now k u t is free some units =
    let x = without_entry e now (flat_of q) in
    subst (λ (v : UnitList). TakesOut q (record n { units = v }) e (removed_by_selection e now (flat_of q))) (sym units)
    (as_flat q (record n { units = record n.units { turns = set n.units.turns (clutch_place k) (Some n.units.next_turn); next_turn = n.units.next_turn + 1 } }) e (with_next_turn k x) (removed_by_selection e now (flat_of q))
    (ap (λ j. with_next_turn j x) is ∙ selected_more e now (flat_of q) free (ap₂ clutch_has_entries (sym t.flat) (sym is) ∙ some))
    (takes_turn q n e x k t))

pub selects_last : (q n : Queue) (e : Queued) (now : ℕ) (k : Clutch) (u : UnitList) → TakesOut q n e (without_entry e now (flat_of q)) → k ≡ clutch_of e.facts → is_some e.facts.bound ≡ false
    → clutch_has_entries (flat_of n) k ≡ false → u ≡ record n.units { turns = set n.units.turns (clutch_place k) None } → TakesOut q (record n { units = u }) e (removed_by_selection e now (flat_of q))
selects_last q n e now k u t is free none units =
    let x = without_entry e now (flat_of q) in
    subst (λ (v : UnitList). TakesOut q (record n { units = v }) e (removed_by_selection e now (flat_of q))) (sym units)
    (as_flat q (record n { units = record n.units { turns = set n.units.turns (clutch_place k) None } }) e (without_turn k x) (removed_by_selection e now (flat_of q))
    (ap (λ j. without_turn j x) is ∙ selected_last e now (flat_of q) free (ap₂ clutch_has_entries (sym t.flat) (sym is) ∙ none))
    (loses_turn q n e x k t))

-- the facts that are read at a place are those of the entry there
pub facts_there : (rows seen : List Slotted) (i : ℕ) (x : Slotted) (t : Facts) (e : Queued) → seen ≡ rows → x ≡ get_or seen i x → t ≡ x.entry.facts → entry_at rows (Some i) ≡ Some e → t ≡ e.facts
facts_there rows seen i x t e same is facts h =
    facts ∙ ap (λ (q : Queued). q.facts) (entry_is rows i x e (is ∙ ap (λ (rs : List Slotted). get_or rs i x) same) h)
