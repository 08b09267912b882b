use Rattle.std.proofs.Common.{◌≡◌, ℕ, ◌<◌, ◌==◌, ◌&&◌, Bool, List, [], true, false, not, cond, get_or, is_some, length, max, set, sym, ap, ap₂, ◌∙◌, arith}
use Rattle.std.proofs.lemmas.Bool.{cond-false}
use Rattle.std.proofs.lemmas.List.Elements.{All-get_or}
use Rattle.sched_base.specs.Bucket.{index}
use Rattle.sched_base.specs.declared.Facts.{Facts}
use Rattle.flat_policy.specs.Policy.Queue.{clutch_of, in_clutch}
use Rattle.plain_cluster.specs.Repricing.{cell}
use Rattle.plain_cluster.proofs.Buckets.{index_below}
use Rattle.plain_cluster.proofs.Tables.{cell_changed}
use Rattle.plain_cluster.proofs.scans.raise_top.Goals as goal

pub returns-then-is_none : goal.returns-then-is_none
returns-then-is_none c = λ k.
    let tops = c.args.tops.now in
    let e = c.args.row.now.entry in
    let g = e.facts.group in
    let b = index e.facts.bucket in
    let facts : c.facts-facts.result ≡ e.facts = c.facts-facts.ensures.facts in
    let column = c.index.ensures.index ∙ ap (λ (f : Facts). index f.bucket) facts in
    let is : is_some e.facts.bound ≡ false = ap (λ (f : Facts). is_some f.bound) (sym facts) ∙ (c.is_none.ensures ∙ ap not c.if-is_none.true) in
    let there : g < length tops = omega (arith, c.keeps_shape.ensures.rows, c.requires) in
    let here : b < length (get_or tops g []) =
    omega (arith, All-get_or (λ (row : List ℕ). length row ≡ 6) tops g [] there c.keeps_shape.ensures.columns, index_below e.facts.bucket) in
    let top : c.max.result ≡ max (cell tops (clutch_of e.facts)) e.pri =
    c.max.ensures
    ∙ ap₂ (λ (m n : ℕ). max m n)
    (c.get-top.ensures ∙ (ap (λ (f : Facts). get_or (get_or tops f.group []) c.index.result 0) facts ∙ ap (λ (j : ℕ). get_or (get_or tops g []) j 0) column))
    (c.from.ensures ∙ c.pri.ensures.pri) in
    let table = c.set.ensures
    ∙ (ap (λ (f : Facts). set tops f.group (set (get_or tops f.group []) c.index.result c.max.result)) facts
    ∙ ap₂ (λ (j v : ℕ). set tops g (set (get_or tops g []) j v)) column top) in
    let test = (g == k.group) && (b == index k.bucket) in
    let inside : in_clutch k e ≡ test = ap (λ (f : Bool). not f && test) is in
    ap (λ (t : List (List ℕ)). cell t k) table
    ∙ (cell_changed tops g b (λ n. max n e.pri) k there here
    ∙ ap (λ (t : Bool). cond t (max (cell tops k) e.pri) (cell tops k)) (sym inside))

pub returns-else-is_none : goal.returns-else-is_none
returns-else-is_none c = λ k.
    let tops = c.args.tops.now in
    let e = c.args.row.now.entry in
    let facts : c.facts-facts.result ≡ e.facts = c.facts-facts.ensures.facts in
    let is : is_some e.facts.bound ≡ true = ap (λ (f : Facts). is_some f.bound) (sym facts) ∙ (c.is_none.ensures ∙ ap not c.if-is_none.false) in
    let outside : in_clutch k e ≡ false = ap (λ (f : Bool). not f && ((e.facts.group == k.group) && (index e.facts.bucket == index k.bucket))) is in
    sym (cond-false (in_clutch k e) (max (cell tops k) e.pri) (cell tops k) outside)
