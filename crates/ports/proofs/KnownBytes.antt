-- Two writes, or two reads, one after another.
use Rattle.std.proofs.Common.{ℕ, List, ◌++◌, Option, None, Some, ap, ◌∙◌, sym, append_assoc}
use Rattle.std.specs.Io.KnownBytes.{Appends, Consumes, prepend_known}

-- what two writes append is what the first appends and then what the second does
pub Appends-append : (old mid new : Option (List ℕ)) (a b : List ℕ) →
    Appends old mid a → Appends mid new b → Appends old new (a ++ b)
Appends-append None mid new a b first second = tt
Appends-append (Some xs) None new a b first second = absurd first
Appends-append (Some xs) (Some ys) None a b first second = absurd second
Appends-append (Some xs) (Some ys) (Some zs) a b first second =
    second ∙ ap (λ (k : List ℕ). k ++ b) first ∙ append_assoc xs a b

-- what two reads consume is what the first consumes and then what the second does
pub Consumes-append : (old mid new : Option (List ℕ)) (a b : List ℕ) →
    Consumes old mid a → Consumes mid new b → Consumes old new (a ++ b)
Consumes-append None mid new a b first second = tt
Consumes-append (Some xs) None new a b first second = absurd first
Consumes-append (Some xs) (Some ys) None a b first second = absurd second
Consumes-append (Some xs) (Some ys) (Some zs) a b first second =
    first ∙ ap (λ (k : List ℕ). a ++ k) second ∙ sym (append_assoc a b zs)

-- bytes that were given away, and the ones in hand behind them, are what was consumed in all
pub Consumes-in_hand : (old left : Option (List ℕ)) (given held : List ℕ) →
    Consumes old (prepend_known held left) given → Consumes old left (given ++ held)
Consumes-in_hand None left given held ahead = tt
Consumes-in_hand (Some xs) None given held ahead = absurd ahead
Consumes-in_hand (Some xs) (Some ys) given held ahead = ahead ∙ sym (append_assoc given held ys)
