-- Which lanes have entries, as entries come and go.
use Rattle.std.proofs.Common.{◌≡◌, ℕ, zero, suc, ◌<◌, Bool, true, false, ◌&&◌, ◌||◌, ◌==◌, cond, List, [], ◌∷◌, ◌++◌, get_or, length, map, refl, sym, ap, ap₂, ◌∙◌, inl, inr, arith}
use Rattle.std.specs.List.{list_any, remove}
use Rattle.std.proofs.lemmas.Bool.{cases_Bool, cond-false, cond-true, cond_both, or_parts}
use Rattle.std.proofs.lemmas.List.Folds.{list_any-append, list_any_at}
use Rattle.sched_base.specs.Bucket.{index}
use Rattle.sched_base.specs.declared.Bucket.TheVariants.{Ui}
use Rattle.bucket_tables.specs.declared.Lane.{Lane}
use Rattle.flat_policy.specs.Policy.Queue.{LaneState, Queued, has_entries, in_lane, lane, lane_of, same_flag, same_lane}
use Rattle.flat_policy.specs.Policy.Windows.{at_lane, renewed_deadline}
use Rattle.flat_policy.specs.declared.setup.Times.{Times}
use Rattle.std.proofs.lemmas.List.{length-map}
use Rattle.windows.specs.Flags.{FillingFollows}
use Rattle.windows.specs.WindowStates.{with_flag}
use Rattle.plain_cluster.specs.Entries.{entries_of}
use Rattle.plain_cluster.specs.Queues.{AreTen, FlagsFollow, flat_of}
use Rattle.plain_cluster.specs.declared.queue.Queue.{Queue}
use Rattle.plain_cluster.proofs.Buckets.{same_lane_is, same_lane_itself}

eqb_turned : (a b : ℕ) → (a == b) ≡ (b == a)
eqb_turned a b = grind arith

flag_turned : (a b : Bool) → same_flag a b ≡ same_flag b a
flag_turned true true = refl
flag_turned true false = refl
flag_turned false true = refl
flag_turned false false = refl

pub lane_turned : (x y : Lane) → same_lane x y ≡ same_lane y x
lane_turned x y = ap₂ (λ (a b : Bool). a && b) (eqb_turned (index x.bucket) (index y.bucket)) (flag_turned x.bound y.bound)

pub map_alike : {X Y : Type 0} (f g : X → Y) (xs : List X) → ((x : X) → f x ≡ g x) → map f xs ≡ map g xs
map_alike f g [] same = refl
map_alike f g (x ∷ xs) same = ap₂ (λ y ys. y ∷ ys) (same x) (map_alike f g xs same)

or_as_cond : (a b : Bool) → (a || b) ≡ cond b true a
or_as_cond true true = refl
or_as_cond true false = refl
or_as_cond false true = refl
or_as_cond false false = refl

or_last : (a : Bool) → (a || false) ≡ a
or_last true = refl
or_last false = refl

-- after an entry comes
pub flag_entered : (es : List Queued) (e : Queued) (l : Lane) → list_any (in_lane l) (es ++ e ∷ []) ≡ cond (same_lane l (lane_of e.facts)) true (list_any (in_lane l) es)
flag_entered es e l =
    list_any-append (in_lane l) es (e ∷ [])
    ∙ (ap (λ b. list_any (in_lane l) es || b) (or_last (in_lane l e))
    ∙ (or_as_cond (list_any (in_lane l) es) (in_lane l e)
    ∙ ap (λ b. cond b true (list_any (in_lane l) es)) (lane_turned (lane_of e.facts) l)))

-- an entry of another lane decides nothing
any_removed : (p : Queued → Bool) (es : List Queued) (i : ℕ) (e : Queued) → i < length es → get_or es i e ≡ e → p e ≡ false → list_any p (remove es i) ≡ list_any p es
any_removed p [] i e within is h = absurd (omega (arith, within))
any_removed p (f ∷ fs) zero e within is h = sym (ap (λ b. b || list_any p fs) (ap p is ∙ h))
any_removed p (f ∷ fs) (suc i) e within is h = ap (λ b. p f || b) (any_removed p fs i e (omega (arith, within)) is h)

-- after an entry goes: by what its lane then has
pub flag_left : (es : List Queued) (i : ℕ) (e : Queued) (has : Bool) → i < length es → get_or es i e ≡ e → list_any (in_lane (lane_of e.facts)) (remove es i) ≡ has
    → (l : Lane) → list_any (in_lane l) (remove es i) ≡ cond (same_lane l (lane_of e.facts)) has (list_any (in_lane l) es)
flag_left es i e has within is h l =
    elim (cases_Bool (same_lane l (lane_of e.facts))) [
      | inl same ↦ ap (λ m. list_any (in_lane m) (remove es i)) (same_lane_is l (lane_of e.facts) same)
          ∙ (h ∙ sym (cond-true (same_lane l (lane_of e.facts)) has (list_any (in_lane l) es) same))
      | inr other ↦ any_removed (in_lane l) es i e within is (lane_turned (lane_of e.facts) l ∙ other)
          ∙ sym (cond-false (same_lane l (lane_of e.facts)) has (list_any (in_lane l) es) other)
    ]

-- the lane of an entry has it
pub flag_there : (es : List Queued) (i : ℕ) (e : Queued) → i < length es → get_or es i e ≡ e → list_any (in_lane (lane_of e.facts)) es ≡ true
flag_there es i e within is = list_any_at (in_lane (lane_of e.facts)) es i e within (ap (in_lane (lane_of e.facts)) is ∙ same_lane_itself (lane_of e.facts))

-- flags and lanes that a lane which isn't among them leaves alone
pub flags_stay : (at : Lane) (b : Bool) (lanes : List LaneState) (fs : List Bool) → list_any (λ (m : Lane). same_lane m at) (map (λ (l : LaneState). l.lane) lanes) ≡ false → length fs ≡ length lanes → with_flag at b lanes fs ≡ fs
flags_stay at b [] [] h long = refl
flags_stay at b [] (f ∷ fs) h long = absurd (omega (arith, long))
flags_stay at b (l ∷ ls) [] h long = refl
flags_stay at b (l ∷ ls) (f ∷ fs) h long =
    let parts = or_parts (same_lane l.lane at) (list_any (λ (m : Lane). same_lane m at) (map (λ (k : LaneState). k.lane) ls)) h in
    ap₂ (λ g gs. g ∷ gs) (cond-false (same_lane l.lane at) b f parts.0) (flags_stay at b ls fs parts.1 (omega (arith, long)))

pub lanes_stay : (at : Lane) (g : LaneState → LaneState) (lanes : List LaneState) → list_any (λ (m : Lane). same_lane m at) (map (λ (l : LaneState). l.lane) lanes) ≡ false → at_lane at g lanes ≡ lanes
lanes_stay at g [] h = refl
lanes_stay at g (l ∷ ls) h =
    let parts = or_parts (same_lane l.lane at) (list_any (λ (m : Lane). same_lane m at) (map (λ (k : LaneState). k.lane) ls)) h in
    ap₂ (λ k ks. k ∷ ks) (cond-false (same_lane l.lane at) (g l) l parts.0) (lanes_stay at g ls parts.1)

-- no timeshare lane is one of UI
pub not_ui : (lanes : List LaneState) (bound : Bool) → AreTen lanes → list_any (λ (m : Lane). same_lane m (lane Ui bound)) (map (λ (l : LaneState). l.lane) lanes) ≡ false
not_ui lanes bound ten = ap (list_any (λ (m : Lane). same_lane m (lane Ui bound))) ten

-- a change that keeps each lane's name
pub names_stay : {Y : Type 0} (g : Lane → Y) (f : LaneState → LaneState) (lanes : List LaneState) → ((l : LaneState) → (f l).lane ≡ l.lane) → map (λ (l : LaneState). g l.lane) (map f lanes) ≡ map (λ (l : LaneState). g l.lane) lanes
names_stay g f [] same = refl
names_stay g f (l ∷ ls) same = ap₂ (λ y ys. y ∷ ys) (ap g (same l)) (names_stay g f ls same)

-- a lane that has entries has them when one more enters
pub flag_already : (has : Lane → Bool) (at : Lane) → has at ≡ true → (l : Lane) → has l ≡ cond (same_lane l at) true (has l)
flag_already has at h l =
    elim (cases_Bool (same_lane l at)) [
      | inl same ↦ ap has (same_lane_is l at same) ∙ (h ∙ sym (cond-true (same_lane l at) true (has l) same))
      | inr other ↦ sym (cond-false (same_lane l at) true (has l) other)
    ]

-- renewing a lane's deadline keeps the lanes
pub renewed_names : (ts : List Times) (now : ℕ) (at : Lane) (l : LaneState) → (cond (same_lane l.lane at) (renewed_deadline ts now l) l).lane ≡ l.lane
renewed_names ts now at l = cond_both (same_lane l.lane at) (renewed_deadline ts now l) l (λ (k : LaneState). k.lane ≡ l.lane) (λ e. refl) (λ e. refl)

-- the flags where a lane is filled and its deadline renewed, by the law on flags
pub flags_filled : FillingFollows → (has : Lane → Bool) (ts : List Times) (now : ℕ) (at : Lane) (lanes : List LaneState) (fs : List Bool) → fs ≡ map (λ (l : LaneState). has l.lane) lanes
    → with_flag at true lanes fs ≡ map (λ (l : LaneState). cond (same_lane l.lane at) true (has l.lane)) (at_lane at (renewed_deadline ts now) lanes)
flags_filled law has ts now at lanes fs follow =
    ap (with_flag at true lanes) follow
    ∙ (law has at true lanes ∙ sym (names_stay (λ m. cond (same_lane m at) true (has m)) (λ l. cond (same_lane l.lane at) (renewed_deadline ts now l) l) lanes (renewed_names ts now at)))

-- the flags where a lane isn't among the lanes
pub flags_apart : FillingFollows → (has : Lane → Bool) (at : Lane) (lanes : List LaneState) (fs : List Bool) → fs ≡ map (λ (l : LaneState). has l.lane) lanes
    → list_any (λ (m : Lane). same_lane m at) (map (λ (l : LaneState). l.lane) lanes) ≡ false
    → fs ≡ map (λ (l : LaneState). cond (same_lane l.lane at) true (has l.lane)) lanes
flags_apart law has at lanes fs follow apart =
    sym (flags_stay at true lanes fs apart (ap length follow ∙ length-map lanes (λ (l : LaneState). has l.lane)))
    ∙ (ap (with_flag at true lanes) follow ∙ law has at true lanes)

pub not_ui_at : (lanes : List LaneState) (at : Lane) → at.bucket ≡ Ui → AreTen lanes → list_any (λ (m : Lane). same_lane m at) (map (λ (l : LaneState). l.lane) lanes) ≡ false
not_ui_at lanes at ui ten = ap (λ b. list_any (λ (m : Lane). same_lane m (lane b at.bound)) (map (λ (l : LaneState). l.lane) lanes)) ui ∙ not_ui lanes at.bound ten

-- the flags after a thread entered
pub entered_flags : (q n : Queue) (e : Queued) (at : Lane) → entries_of n.rows.rows ≡ entries_of q.rows.rows ++ e ∷ [] → at ≡ lane_of e.facts
    → n.windows.filled ≡ map (λ (l : LaneState). cond (same_lane l.lane at) true (has_entries (flat_of q) l.lane)) n.windows.lanes → FlagsFollow n
entered_flags q n e at more is filled =
    filled
    ∙ (map_alike (λ (l : LaneState). cond (same_lane l.lane at) true (has_entries (flat_of q) l.lane)) (λ (l : LaneState). list_any (in_lane l.lane) (entries_of q.rows.rows ++ e ∷ [])) n.windows.lanes
    (λ l. ap (λ m. cond (same_lane l.lane m) true (has_entries (flat_of q) l.lane)) is ∙ sym (flag_entered (entries_of q.rows.rows) e l.lane))
    ∙ ap (λ (es : List Queued). map (λ (l : LaneState). list_any (in_lane l.lane) es) n.windows.lanes) (sym more))
