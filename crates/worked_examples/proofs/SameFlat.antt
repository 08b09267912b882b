-- Whether two queues without entries are the same.
use Rattle.std.proofs.Common.{◌≡◌, ℕ, ◌==◌, Bool, true, false, ◌&&◌, List, [], ◌∷◌, Option, refl, ap, ◌∙◌}
use Rattle.std.proofs.lemmas.Bool.{and_parts, eqb-true, false≢true}
use Rattle.sched_base.specs.Bucket.{index}
use Rattle.sched_base.specs.declared.Bucket.{Bucket}
use Rattle.bucket_tables.specs.declared.Lane.{Lane}
use Rattle.flat_policy.specs.declared.lanes.Starved.{Starved}
use Rattle.flat_policy.specs.declared.lanes.Starved.TheVariants.{No, Since}
use Rattle.flat_policy.specs.declared.lanes.Warp.{Warp}
use Rattle.flat_policy.specs.declared.lanes.Warp.TheVariants.{Spent, Until, Unused}
use Rattle.flat_policy.specs.Policy.Queue.{Flat, LaneState, Queued}
use Rattle.flat_policy.specs.Policy.Usage.{Spans}
use Rattle.worked_examples.proofs.Same.{same_bound, same_bound_is, same_bucket_is}

abbrev same_list : {X : Type 0} → (X → X → Bool) → List X → List X → Bool
same_list same [] [] = true
same_list same (x ∷ xs) (y ∷ ys) = same x y && same_list same xs ys
same_list same _ _ = false

same_list_is : {X : Type 0} (same : X → X → Bool) → ((x y : X) → same x y ≡ true → x ≡ y) → (xs ys : List X) → same_list same xs ys ≡ true → xs ≡ ys
same_list_is same is [] [] h = refl
same_list_is same is [] (y ∷ ys) h = absurd (false≢true h)
same_list_is same is (x ∷ xs) [] h = absurd (false≢true h)
same_list_is same is (x ∷ xs) (y ∷ ys) h =
    let p = and_parts (same x y) (same_list same xs ys) h
    in ap (λ z. z ∷ xs) (is x y p.0) ∙ ap (λ zs. y ∷ zs) (same_list_is same is xs ys p.1)

abbrev same_flag : Bool → Bool → Bool
same_flag true true = true
same_flag false false = true
same_flag _ _ = false

same_flag_is : (x y : Bool) → same_flag x y ≡ true → x ≡ y
same_flag_is true true h = refl
same_flag_is false false h = refl
same_flag_is true false h = absurd (false≢true h)
same_flag_is false true h = absurd (false≢true h)

abbrev same_warp : Warp → Warp → Bool
same_warp Unused Unused = true
same_warp (Until m) (Until n) = m == n
same_warp Spent Spent = true
same_warp _ _ = false

same_warp_is : (x y : Warp) → same_warp x y ≡ true → x ≡ y
same_warp_is Unused Unused h = refl
same_warp_is (Until m) (Until n) h = ap (λ k. Until k) (eqb-true m n h)
same_warp_is Spent Spent h = refl
same_warp_is _ _ h = absurd (false≢true h)

abbrev same_starved : Starved → Starved → Bool
same_starved No No = true
same_starved (Since m) (Since n) = m == n
same_starved _ _ = false

same_starved_is : (x y : Starved) → same_starved x y ≡ true → x ≡ y
same_starved_is No No h = refl
same_starved_is (Since m) (Since n) h = ap (λ k. Since k) (eqb-true m n h)
same_starved_is _ _ h = absurd (false≢true h)

-- both lists of entries are empty
abbrev no_entries : List Queued → List Queued → Bool
no_entries [] [] = true
no_entries _ _ = false

no_entries_is : (xs ys : List Queued) → no_entries xs ys ≡ true → xs ≡ ys
no_entries_is [] [] h = refl
no_entries_is _ _ h = absurd (false≢true h)

abbrev same_lane : Lane → Lane → Bool
same_lane x y = (index x.bucket == index y.bucket) && (same_flag x.bound y.bound)

same_lane_is : (x y : Lane) → same_lane x y ≡ true → x ≡ y
same_lane_is x y h =
    let p0 = and_parts (index x.bucket == index y.bucket) (same_flag x.bound y.bound) h in
    let q0 = ap (λ (v : Bucket). record x { bucket = v }) (same_bucket_is x.bucket y.bucket p0.0) in
    let q1 = ap (λ (v : Bool). record x { bucket = y.bucket; bound = v }) (same_flag_is x.bound y.bound p0.1)
    in q0 ∙ q1

abbrev same_lane_state : LaneState → LaneState → Bool
same_lane_state x y = (same_lane x.lane y.lane) && ((x.deadline == y.deadline) && ((same_warp x.warp y.warp) && (same_starved x.starved y.starved)))

same_lane_state_is : (x y : LaneState) → same_lane_state x y ≡ true → x ≡ y
same_lane_state_is x y h =
    let p0 = and_parts (same_lane x.lane y.lane) ((x.deadline == y.deadline) && ((same_warp x.warp y.warp) && (same_starved x.starved y.starved))) h in
    let p1 = and_parts (x.deadline == y.deadline) ((same_warp x.warp y.warp) && (same_starved x.starved y.starved)) p0.1 in
    let p2 = and_parts (same_warp x.warp y.warp) (same_starved x.starved y.starved) p1.1 in
    let q0 = ap (λ (v : Lane). record x { lane = v }) (same_lane_is x.lane y.lane p0.0) in
    let q1 = ap (λ (v : ℕ). record x { lane = y.lane; deadline = v }) (eqb-true x.deadline y.deadline p1.0) in
    let q2 = ap (λ (v : Warp). record x { lane = y.lane; deadline = y.deadline; warp = v }) (same_warp_is x.warp y.warp p2.0) in
    let q3 = ap (λ (v : Starved). record x { lane = y.lane; deadline = y.deadline; warp = y.warp; starved = v }) (same_starved_is x.starved y.starved p2.1)
    in q0 ∙ q1 ∙ q2 ∙ q3

abbrev same_spans : Spans → Spans → Bool
same_spans x y = (x.used == y.used) && (x.blocked == y.blocked)

same_spans_is : (x y : Spans) → same_spans x y ≡ true → x ≡ y
same_spans_is x y h =
    let p0 = and_parts (x.used == y.used) (x.blocked == y.blocked) h in
    let q0 = ap (λ (v : ℕ). record x { used = v }) (eqb-true x.used y.used p0.0) in
    let q1 = ap (λ (v : ℕ). record x { used = y.used; blocked = v }) (eqb-true x.blocked y.blocked p0.1)
    in q0 ∙ q1

abbrev pub same_flat : Flat → Flat → Bool
same_flat x y = (no_entries x.entries y.entries) && ((same_list same_spans x.spans y.spans) && ((same_list same_bound x.turns y.turns) && ((same_list same_lane_state x.lanes y.lanes) && ((x.last == y.last) && ((x.next_arrival == y.next_arrival) && ((x.next_turn == y.next_turn) && (same_flag x.on y.on)))))))

pub same_flat_is : (x y : Flat) → same_flat x y ≡ true → x ≡ y
same_flat_is x y h =
    let p0 = and_parts (no_entries x.entries y.entries) ((same_list same_spans x.spans y.spans) && ((same_list same_bound x.turns y.turns) && ((same_list same_lane_state x.lanes y.lanes) && ((x.last == y.last) && ((x.next_arrival == y.next_arrival) && ((x.next_turn == y.next_turn) && (same_flag x.on y.on))))))) h in
    let p1 = and_parts (same_list same_spans x.spans y.spans) ((same_list same_bound x.turns y.turns) && ((same_list same_lane_state x.lanes y.lanes) && ((x.last == y.last) && ((x.next_arrival == y.next_arrival) && ((x.next_turn == y.next_turn) && (same_flag x.on y.on)))))) p0.1 in
    let p2 = and_parts (same_list same_bound x.turns y.turns) ((same_list same_lane_state x.lanes y.lanes) && ((x.last == y.last) && ((x.next_arrival == y.next_arrival) && ((x.next_turn == y.next_turn) && (same_flag x.on y.on))))) p1.1 in
    let p3 = and_parts (same_list same_lane_state x.lanes y.lanes) ((x.last == y.last) && ((x.next_arrival == y.next_arrival) && ((x.next_turn == y.next_turn) && (same_flag x.on y.on)))) p2.1 in
    let p4 = and_parts (x.last == y.last) ((x.next_arrival == y.next_arrival) && ((x.next_turn == y.next_turn) && (same_flag x.on y.on))) p3.1 in
    let p5 = and_parts (x.next_arrival == y.next_arrival) ((x.next_turn == y.next_turn) && (same_flag x.on y.on)) p4.1 in
    let p6 = and_parts (x.next_turn == y.next_turn) (same_flag x.on y.on) p5.1 in
    let q0 = ap (λ (v : List Queued). record x { entries = v }) (no_entries_is x.entries y.entries p0.0) in
    let q1 = ap (λ (v : List Spans). record x { entries = y.entries; spans = v }) (same_list_is same_spans same_spans_is x.spans y.spans p1.0) in
    let q2 = ap (λ (v : List (Option ℕ)). record x { entries = y.entries; spans = y.spans; turns = v }) (same_list_is same_bound same_bound_is x.turns y.turns p2.0) in
    let q3 = ap (λ (v : List LaneState). record x { entries = y.entries; spans = y.spans; turns = y.turns; lanes = v }) (same_list_is same_lane_state same_lane_state_is x.lanes y.lanes p3.0) in
    let q4 = ap (λ (v : ℕ). record x { entries = y.entries; spans = y.spans; turns = y.turns; lanes = y.lanes; last = v }) (eqb-true x.last y.last p4.0) in
    let q5 = ap (λ (v : ℕ). record x { entries = y.entries; spans = y.spans; turns = y.turns; lanes = y.lanes; last = y.last; next_arrival = v }) (eqb-true x.next_arrival y.next_arrival p5.0) in
    let q6 = ap (λ (v : ℕ). record x { entries = y.entries; spans = y.spans; turns = y.turns; lanes = y.lanes; last = y.last; next_arrival = y.next_arrival; next_turn = v }) (eqb-true x.next_turn y.next_turn p6.0) in
    let q7 = ap (λ (v : Bool). record x { entries = y.entries; spans = y.spans; turns = y.turns; lanes = y.lanes; last = y.last; next_arrival = y.next_arrival; next_turn = y.next_turn; on = v }) (same_flag_is x.on y.on p6.1)
    in q0 ∙ q1 ∙ q2 ∙ q3 ∙ q4 ∙ q5 ∙ q6 ∙ q7
