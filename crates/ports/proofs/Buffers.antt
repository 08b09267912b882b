-- What a buffer has in hand after a drop, a move and a read.
use Rattle.std.proofs.Common.{◌≡◌, ℕ, ◌+◌, ◌-◌, ◌≤◌, List, ◌++◌, length, take, drop, Option, None, Some, arith, sym, ◌∙◌, ap, append_assoc}
use Rattle.std.specs.Prelude.{Result, Ok, Err, IfOk}
use Rattle.std.specs.List.{copy_within}
use Rattle.std.specs.Io.{ReadsAtMost}
use Rattle.std.specs.Io.KnownBytes.{Keeps, Consumes, ReadConsumes, prepend_known}
use Rattle.std.proofs.Math.Seq.{take-add, drop-append_seam}
use borrow.Rule.Slice.PartMut.{put_mid, post_of}
use Rattle.std.proofs.lemmas.List.{drop-drop, drop-take, length-take-le, length-drop, take-append-le}
use Rattle.std.proofs.Common.{◌∷◌, [], suc, add-one, drop-cons, ◌<◌}
use Rattle.std.proofs.lemmas.List.{take-append-drop}
use Rattle.ports.specs.Lines.{EndsAt}
use Rattle.ports.proofs.Lists.{take-append-exact}

-- the part that is left when `count` bytes are dropped from its front
pub part-drop : (bytes : List ℕ) (start end count : ℕ) → start + count ≤ end →
    take (end - (start + count)) (drop (start + count) bytes) ≡ drop count (take (end - start) (drop start bytes))
part-drop bytes start end count within =
    let rest : ℕ = end - (start + count) in
    let long : end - start ≡ count + rest = omega arith in
    ap (λ (xs : List ℕ). take rest xs) (sym (drop-drop count start bytes))
    ∙ sym (drop-take count rest (drop start bytes))
    ∙ ap (λ (n : ℕ). drop count (take n (drop start bytes))) (sym long)

-- the part stands at the front after it was copied there
pub part-front : (bytes : List ℕ) (start end : ℕ) → start ≤ end → end ≤ length bytes →
    take (end - start) (copy_within bytes start end 0) ≡ take (end - start) (drop start bytes)
part-front bytes start end order within =
    let part : List ℕ = take (end - start) (drop start bytes) in
    let inner : end - start ≤ length (drop start bytes) = simp length-drop (omega arith) in
    take-append-exact part (drop (0 + (end - start)) bytes) (end - start) (sym (length-take-le (end - start) (drop start bytes) inner))

-- the front of a list after the part behind its first a elements was written over
pub take-put_mid-read : (a k n : ℕ) (xs ys : List ℕ) → a ≤ length xs → n ≤ length ys →
    take (a + n) (put_mid a k xs ys) ≡ take a xs ++ take n ys
take-put_mid-read a k n xs ys within read =
    let all : List ℕ = put_mid a k xs ys in
    let size : a ≡ length (take a xs) = sym (length-take-le a xs within) in
    let first : take a all ≡ take a xs = take-append-exact (take a xs) (ys ++ post_of a k xs) a size in
    let second : drop a all ≡ ys ++ post_of a k xs =
    ap (λ (m : ℕ). drop m all) size ∙ drop-append_seam (take a xs) (ys ++ post_of a k xs) in
    take-add a n all
    ∙ ap (λ (front : List ℕ). front ++ take n (drop a all)) first
    ∙ ap (λ (rest : List ℕ). take a xs ++ take n rest) second
    ∙ ap (λ (rest : List ℕ). take a xs ++ rest) (take-append-le n ys (post_of a k xs) read)

-- the bytes in hand and those to come are the same after a read as before
pub Keeps-read : (old got new : List ℕ) (left rest : Option (List ℕ)) → new ≡ old ++ got → Consumes left rest got →
    Keeps (prepend_known old left) (prepend_known new rest)
Keeps-read old got new None rest grown read = tt
Keeps-read old got new (Some xs) None grown read = absurd read
Keeps-read old got new (Some xs) (Some ys) grown read =
    ap (λ (k : List ℕ). k ++ ys) grown ∙ append_assoc old got ys ∙ ap (λ (k : List ℕ). old ++ k) (sym read)

-- the same of a read into a part of the buffer, behind the bytes in hand
pub Keeps-read_into : {E : Type 0} (r : Result ℕ E) (a k : ℕ) (xs ys held : List ℕ) (left rest : Option (List ℕ)) →
    take a xs ≡ held → a ≤ length xs → ReadsAtMost r ys → ReadConsumes left rest r ys →
    IfOk r (λ n. Keeps (prepend_known held left) (prepend_known (take (a + n) (put_mid a k xs ys)) rest))
Keeps-read_into (Ok n) a k xs ys held left rest is within bound read =
    Keeps-read held (take n ys) (take (a + n) (put_mid a k xs ys)) left rest
    (take-put_mid-read a k n xs ys within bound.0 ∙ ap (λ (front : List ℕ). front ++ take n ys) is)
    read.0
Keeps-read_into (Err e) a k xs ys held left rest is within bound read = tt

-- a list with a newline at n is the line before it, the newline, and the rest
pub split-at_newline : (bytes : List ℕ) (most n : ℕ) → EndsAt most n bytes →
    bytes ≡ (take n bytes ++ 10 ∷ []) ++ drop (n + 1) bytes
split-at_newline bytes most n ends =
    let within : n < length bytes = ends.within in
    let rest : drop n bytes ≡ 10 ∷ drop (n + 1) bytes =
    rw (add-one, drop-cons bytes n 0) (ap (λ (b : ℕ). b ∷ drop (suc n) bytes) ends.newline) in
    sym (take-append-drop n bytes)
    ∙ ap (λ (k : List ℕ). take n bytes ++ k) rest
    ∙ sym (append_assoc (take n bytes) (10 ∷ []) (drop (n + 1) bytes))

-- where the bytes in hand begin with a line, it and its newline may be given away
pub Consumes-line : (old : Option (List ℕ)) (bytes : List ℕ) (rest : Option (List ℕ)) (most n m : ℕ) → m ≡ n → EndsAt most n bytes →
    Keeps old (prepend_known bytes rest) → Consumes old (prepend_known (drop (n + 1) bytes) rest) (take m bytes ++ 10 ∷ [])
Consumes-line None bytes rest most n m is ends kept = tt
Consumes-line (Some xs) bytes None most n m is ends kept = absurd kept
Consumes-line (Some xs) bytes (Some ys) most n m is ends kept =
    let line : take m bytes ≡ take n bytes = ap (λ (k : ℕ). take k bytes) is in
    sym kept
    ∙ ap (λ (k : List ℕ). k ++ ys) (split-at_newline bytes most n ends)
    ∙ append_assoc (take n bytes ++ 10 ∷ []) (drop (n + 1) bytes) ys
    ∙ ap (λ (k : List ℕ). (k ++ 10 ∷ []) ++ (drop (n + 1) bytes ++ ys)) (sym line)
