-- Whether two answers, and two threads, are the same.
use Rattle.std.proofs.Common.{◌≡◌, ℕ, ◌==◌, Bool, true, false, ◌&&◌, Option, Some, None, refl, ap, ◌∙◌}
use Rattle.std.proofs.lemmas.Bool.{and_parts, eqb-true, false≢true}
use Rattle.sched_base.specs.Bucket.{index}
use Rattle.sched_base.specs.declared.Answer.{Answer}
use Rattle.sched_base.specs.declared.Answer.TheVariants as answers
use Rattle.sched_base.specs.declared.Bucket.{Bucket}
use Rattle.sched_base.specs.declared.Bucket.TheVariants.{Bg, Df, Fg, Ini, Ui, Ut}
use Rattle.sched_base.specs.declared.Facts.{Facts}

-- answers of the kinds that accepted steps of runs have
abbrev pub same_answer : Answer → Answer → Bool
same_answer answers.Yes answers.Yes = true
same_answer answers.Empty answers.Empty = true
same_answer answers.Off answers.Off = true
same_answer (answers.Got m) (answers.Got n) = m == n
same_answer (answers.Pri m) (answers.Pri n) = m == n
same_answer (answers.To m) (answers.To n) = m == n
same_answer (answers.Load m) (answers.Load n) = m == n
same_answer (answers.Work m) (answers.Work n) = m == n
same_answer (answers.Left m) (answers.Left n) = m == n
same_answer _ _ = false

pub same_answer_is : (x y : Answer) → same_answer x y ≡ true → x ≡ y
same_answer_is answers.Yes answers.Yes h = refl
same_answer_is answers.Empty answers.Empty h = refl
same_answer_is answers.Off answers.Off h = refl
same_answer_is (answers.Got m) (answers.Got n) h = ap (λ k. answers.Got k) (eqb-true m n h)
same_answer_is (answers.Pri m) (answers.Pri n) h = ap (λ k. answers.Pri k) (eqb-true m n h)
same_answer_is (answers.To m) (answers.To n) h = ap (λ k. answers.To k) (eqb-true m n h)
same_answer_is (answers.Load m) (answers.Load n) h = ap (λ k. answers.Load k) (eqb-true m n h)
same_answer_is (answers.Work m) (answers.Work n) h = ap (λ k. answers.Work k) (eqb-true m n h)
same_answer_is (answers.Left m) (answers.Left n) h = ap (λ k. answers.Left k) (eqb-true m n h)
same_answer_is _ _ h = absurd (false≢true h)

pub same_bucket_is : (x y : Bucket) → (index x == index y) ≡ true → x ≡ y
same_bucket_is Ui Ui h = refl
same_bucket_is Fg Fg h = refl
same_bucket_is Ini Ini h = refl
same_bucket_is Df Df h = refl
same_bucket_is Ut Ut h = refl
same_bucket_is Bg Bg h = refl
same_bucket_is _ _ h = absurd (false≢true h)

abbrev pub same_bound : Option ℕ → Option ℕ → Bool
same_bound None None = true
same_bound (Some m) (Some n) = m == n
same_bound _ _ = false

pub same_bound_is : (x y : Option ℕ) → same_bound x y ≡ true → x ≡ y
same_bound_is None None h = refl
same_bound_is (Some m) (Some n) h = ap (λ k. Some k) (eqb-true m n h)
same_bound_is _ _ h = absurd (false≢true h)

abbrev same_facts : Facts → Facts → Bool
same_facts x y = (x.name == y.name) && ((x.group == y.group) && ((index x.bucket == index y.bucket) && ((x.base == y.base) && (same_bound x.bound y.bound && ((x.prefer == y.prefer) && ((x.usage == y.usage) && ((x.seen == y.seen) && ((x.pending_ran == y.pending_ran) && ((x.pending_blocked == y.pending_blocked) && ((x.work == y.work)))))))))))

same_facts_is : (x y : Facts) → same_facts x y ≡ true → x ≡ y
same_facts_is x y h =
    let p0 = and_parts ((x.name == y.name)) ((x.group == y.group) && ((index x.bucket == index y.bucket) && ((x.base == y.base) && (same_bound x.bound y.bound && ((x.prefer == y.prefer) && ((x.usage == y.usage) && ((x.seen == y.seen) && ((x.pending_ran == y.pending_ran) && ((x.pending_blocked == y.pending_blocked) && ((x.work == y.work))))))))))) h in
    let p1 = and_parts ((x.group == y.group)) ((index x.bucket == index y.bucket) && ((x.base == y.base) && (same_bound x.bound y.bound && ((x.prefer == y.prefer) && ((x.usage == y.usage) && ((x.seen == y.seen) && ((x.pending_ran == y.pending_ran) && ((x.pending_blocked == y.pending_blocked) && ((x.work == y.work)))))))))) p0.1 in
    let p2 = and_parts ((index x.bucket == index y.bucket)) ((x.base == y.base) && (same_bound x.bound y.bound && ((x.prefer == y.prefer) && ((x.usage == y.usage) && ((x.seen == y.seen) && ((x.pending_ran == y.pending_ran) && ((x.pending_blocked == y.pending_blocked) && ((x.work == y.work))))))))) p1.1 in
    let p3 = and_parts ((x.base == y.base)) (same_bound x.bound y.bound && ((x.prefer == y.prefer) && ((x.usage == y.usage) && ((x.seen == y.seen) && ((x.pending_ran == y.pending_ran) && ((x.pending_blocked == y.pending_blocked) && ((x.work == y.work)))))))) p2.1 in
    let p4 = and_parts (same_bound x.bound y.bound) ((x.prefer == y.prefer) && ((x.usage == y.usage) && ((x.seen == y.seen) && ((x.pending_ran == y.pending_ran) && ((x.pending_blocked == y.pending_blocked) && ((x.work == y.work))))))) p3.1 in
    let p5 = and_parts ((x.prefer == y.prefer)) ((x.usage == y.usage) && ((x.seen == y.seen) && ((x.pending_ran == y.pending_ran) && ((x.pending_blocked == y.pending_blocked) && ((x.work == y.work)))))) p4.1 in
    let p6 = and_parts ((x.usage == y.usage)) ((x.seen == y.seen) && ((x.pending_ran == y.pending_ran) && ((x.pending_blocked == y.pending_blocked) && ((x.work == y.work))))) p5.1 in
    let p7 = and_parts ((x.seen == y.seen)) ((x.pending_ran == y.pending_ran) && ((x.pending_blocked == y.pending_blocked) && ((x.work == y.work)))) p6.1 in
    let p8 = and_parts ((x.pending_ran == y.pending_ran)) ((x.pending_blocked == y.pending_blocked) && ((x.work == y.work))) p7.1 in
    let p9 = and_parts ((x.pending_blocked == y.pending_blocked)) ((x.work == y.work)) p8.1 in
    let q0 = ap (λ (v : ℕ). record x { name = v }) (eqb-true x.name y.name p0.0) in
    let q1 = ap (λ (v : ℕ). record x { name = y.name; group = v }) (eqb-true x.group y.group p1.0) in
    let q2 = ap (λ (v : Bucket). record x { name = y.name; group = y.group; bucket = v }) (same_bucket_is x.bucket y.bucket p2.0) in
    let q3 = ap (λ (v : ℕ). record x { name = y.name; group = y.group; bucket = y.bucket; base = v }) (eqb-true x.base y.base p3.0) in
    let q4 = ap (λ (v : Option ℕ). record x { name = y.name; group = y.group; bucket = y.bucket; base = y.base; bound = v }) (same_bound_is x.bound y.bound p4.0) in
    let q5 = ap (λ (v : ℕ). record x { name = y.name; group = y.group; bucket = y.bucket; base = y.base; bound = y.bound; prefer = v }) (eqb-true x.prefer y.prefer p5.0) in
    let q6 = ap (λ (v : ℕ). record x { name = y.name; group = y.group; bucket = y.bucket; base = y.base; bound = y.bound; prefer = y.prefer; usage = v }) (eqb-true x.usage y.usage p6.0) in
    let q7 = ap (λ (v : ℕ). record x { name = y.name; group = y.group; bucket = y.bucket; base = y.base; bound = y.bound; prefer = y.prefer; usage = y.usage; seen = v }) (eqb-true x.seen y.seen p7.0) in
    let q8 = ap (λ (v : ℕ). record x { name = y.name; group = y.group; bucket = y.bucket; base = y.base; bound = y.bound; prefer = y.prefer; usage = y.usage; seen = y.seen; pending_ran = v }) (eqb-true x.pending_ran y.pending_ran p8.0) in
    let q9 = ap (λ (v : ℕ). record x { name = y.name; group = y.group; bucket = y.bucket; base = y.base; bound = y.bound; prefer = y.prefer; usage = y.usage; seen = y.seen; pending_ran = y.pending_ran; pending_blocked = v }) (eqb-true x.pending_blocked y.pending_blocked p9.0) in
    let q10 = ap (λ (v : ℕ). record x { name = y.name; group = y.group; bucket = y.bucket; base = y.base; bound = y.bound; prefer = y.prefer; usage = y.usage; seen = y.seen; pending_ran = y.pending_ran; pending_blocked = y.pending_blocked; work = v }) (eqb-true x.work y.work p9.1)
    in q0 ∙ q1 ∙ q2 ∙ q3 ∙ q4 ∙ q5 ∙ q6 ∙ q7 ∙ q8 ∙ q9 ∙ q10

abbrev pub same_thread : Option Facts → Option Facts → Bool
same_thread None None = true
same_thread (Some t) (Some u) = same_facts t u
same_thread _ _ = false

pub same_thread_is : (x y : Option Facts) → same_thread x y ≡ true → x ≡ y
same_thread_is None None h = refl
same_thread_is (Some t) (Some u) h = ap (λ k. Some k) (same_facts_is t u h)
same_thread_is _ _ h = absurd (false≢true h)
