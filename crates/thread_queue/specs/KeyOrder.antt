-- Why the keys of items are strictly ordered. No public clause cites this module.
use Rattle.std.specs.Prelude.{false, int_lt, nat_lt, true, ℕ, ◌&&◌, ◌==◌, ◌||◌, ◌≡◌}
use Rattle.std.proofs.Common.{ap, ◌∙◌}
use Rattle.flat_policy.proofs.Lexical.{by_number_irreflexive, falls_total, falls_transitive, int_irreflexive, int_total, int_transitive, rises_total, rises_transitive}
use Rattle.pairing_heap.specs.Order.{IsStrictOrder}
use Rattle.thread_queue.specs.Item.{foreign_precedes, key_precedes}
use Rattle.thread_queue.specs.declared.item.ForeignKey.{ForeignKey}
use Rattle.thread_queue.specs.declared.item.ItemKey.{ItemKey}

pub key_irreflexive : (a : ItemKey) → key_precedes a a ≡ false
key_irreflexive a = by_number_irreflexive a.pri (int_lt a.number a.number) (int_irreflexive a.number)

pub key_transitive : (a b c : ItemKey) → key_precedes a b ≡ true → key_precedes b c ≡ true → key_precedes a c ≡ true
key_transitive a b c h k =
    falls_transitive a.pri b.pri c.pri (int_lt a.number b.number) (int_lt b.number c.number) (int_lt a.number c.number)
    (λ e f. int_transitive a.number b.number c.number) h k

pub key_total : (a b : ItemKey) → key_precedes a b ≡ false → key_precedes b a ≡ false → a ≡ b
key_total a b h k =
    let t = falls_total a.pri b.pri (int_lt a.number b.number) (int_lt b.number a.number) h k in
    ap (λ (n : ℕ). record { pri = n; number = a.number }) t.0
    ∙ ap (λ n. record { pri = b.pri; number = n }) (int_total a.number b.number t.1 t.2)

-- the keys are strictly ordered
pub key_order : IsStrictOrder key_precedes
key_order = record { irreflexive = key_irreflexive; transitive = key_transitive; total = key_total }

pub foreign_irreflexive : (a : ForeignKey) → foreign_precedes a a ≡ false
foreign_irreflexive a =
    by_number_irreflexive a.bucket (nat_lt a.pri a.pri || ((a.pri == a.pri) && int_lt a.number a.number))
    (by_number_irreflexive a.pri (int_lt a.number a.number) (int_irreflexive a.number))

pub foreign_transitive : (a b c : ForeignKey) → foreign_precedes a b ≡ true → foreign_precedes b c ≡ true → foreign_precedes a c ≡ true
foreign_transitive a b c h k =
    rises_transitive a.bucket b.bucket c.bucket
    (nat_lt b.pri a.pri || ((a.pri == b.pri) && int_lt a.number b.number))
    (nat_lt c.pri b.pri || ((b.pri == c.pri) && int_lt b.number c.number))
    (nat_lt c.pri a.pri || ((a.pri == c.pri) && int_lt a.number c.number))
    (λ _ _ p q. falls_transitive a.pri b.pri c.pri (int_lt a.number b.number) (int_lt b.number c.number) (int_lt a.number c.number)
    (λ e f. int_transitive a.number b.number c.number) p q) h k

pub foreign_total : (a b : ForeignKey) → foreign_precedes a b ≡ false → foreign_precedes b a ≡ false → a ≡ b
foreign_total a b h k =
    let s = rises_total a.bucket b.bucket (nat_lt b.pri a.pri || ((a.pri == b.pri) && int_lt a.number b.number)) (nat_lt a.pri b.pri || ((b.pri == a.pri) && int_lt b.number a.number)) h k in
    let t = falls_total a.pri b.pri (int_lt a.number b.number) (int_lt b.number a.number) s.1 s.2 in
    ap (λ (n : ℕ). record { bucket = n; pri = a.pri; number = a.number }) s.0
    ∙ ap (λ (n : ℕ). record { bucket = b.bucket; pri = n; number = a.number }) t.0
    ∙ ap (λ n. record { bucket = b.bucket; pri = b.pri; number = n }) (int_total a.number b.number t.1 t.2)

-- so are the keys of items that another cluster may take
pub foreign_order : IsStrictOrder foreign_precedes
foreign_order = record { irreflexive = foreign_irreflexive; transitive = foreign_transitive; total = foreign_total }
