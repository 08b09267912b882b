use Rattle.std.proofs.Common.{◌≡◌, ℕ, ◌+◌, ◌<◌, List, [], true, false, get_or, is_some, length, set, sym, ap, ap₂, ◌∙◌, arith}
use Rattle.std.proofs.lemmas.Bool.{cond-false, cond-true}
use Rattle.std.proofs.lemmas.List.Elements.{All-get_or}
use Rattle.sched_base.specs.Bucket.{index}
use Rattle.sched_base.specs.declared.Facts.{Facts}
use Rattle.flat_policy.specs.Policy.Queue.{clutch_of}
use Rattle.plain_cluster.specs.Repricing.{cell, count_of}
use Rattle.plain_cluster.proofs.Buckets.{index_below}
use Rattle.plain_cluster.proofs.Tables.{bound_more, free_more}
use Rattle.plain_cluster.proofs.counts.Counts.add.Goals as goal

pub returns-then-is_some : goal.returns-then-is_some
returns-then-is_some c = λ t.
    let counts = c.args.self.now in
    let e = c.args.row.now.entry in
    let facts : c.facts-facts.result ≡ e.facts = c.facts-facts.ensures.facts in
    let column : c.index-column.result ≡ index e.facts.bucket = c.index-column.ensures.index ∙ ap (λ (f : Facts). index f.bucket) facts in
    let is : is_some e.facts.bound ≡ true = sym (c.is_some.ensures ∙ ap (λ (f : Facts). is_some f.bound) facts) ∙ c.if-is_some.true in
    let count : c.of-count.result ≡ get_or counts.bound (index e.facts.bucket) 0 =
    c.of-count.ensures ∙ (ap (count_of counts) facts ∙ cond-true (is_some e.facts.bound) (get_or counts.bound (index e.facts.bucket) 0) (cell counts.unbound (clutch_of e.facts)) is) in
    let here : index e.facts.bucket < length counts.bound = omega arith in
    ap₂ (λ (b v : ℕ). count_of (record { unbound = counts.unbound; bound = set counts.bound b (v + 1) }) t) column count ∙ bound_more counts e t is here

pub returns-else-is_some : goal.returns-else-is_some
returns-else-is_some c = λ t.
    let counts = c.args.self.now in
    let e = c.args.row.now.entry in
    let facts : c.facts-facts.result ≡ e.facts = c.facts-facts.ensures.facts in
    let column : c.index-column.result ≡ index e.facts.bucket = c.index-column.ensures.index ∙ ap (λ (f : Facts). index f.bucket) facts in
    let is : is_some e.facts.bound ≡ false = sym (c.is_some.ensures ∙ ap (λ (f : Facts). is_some f.bound) facts) ∙ c.if-is_some.false in
    let count : c.of-count.result ≡ cell counts.unbound (clutch_of e.facts) =
    c.of-count.ensures ∙ (ap (count_of counts) facts ∙ cond-false (is_some e.facts.bound) (get_or counts.bound (index e.facts.bucket) 0) (cell counts.unbound (clutch_of e.facts)) is) in
    let there : e.facts.group < length counts.unbound = omega (arith, c.keeps_shape.ensures.rows, c.requires.group) in
    let here : index e.facts.bucket < length (get_or counts.unbound e.facts.group []) =
    omega (arith, All-get_or (λ (row : List ℕ). length row ≡ 6) counts.unbound e.facts.group [] there c.keeps_shape.ensures.columns, index_below e.facts.bucket) in
    let table = c.set.ensures
    ∙ (ap (λ (f : Facts). set counts.unbound f.group (set (get_or counts.unbound f.group []) c.index-column.result (c.of-count.result + 1))) facts
    ∙ ap₂ (λ (b v : ℕ). set counts.unbound e.facts.group (set (get_or counts.unbound e.facts.group []) b (v + 1))) column count) in
    ap (λ (u : List (List ℕ)). count_of (record { unbound = u; bound = counts.bound }) t) table ∙ free_more counts e t is there here
