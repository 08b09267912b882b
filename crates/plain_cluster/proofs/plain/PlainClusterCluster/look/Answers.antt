use Rattle.std.proofs.Common.{◌≡◌, ◌*◌, ◌/◌, List, ℕ, count_by, filter, length, ap, ap₂, sym, ◌∙◌}
use Rattle.std.proofs.lemmas.List.Sums.{length-filter}
use Rattle.flat_policy.specs.declared.setup.Times.{Times}
use Rattle.flat_policy.specs.Policy.Clusters.{ClusterView}
use Rattle.flat_policy.specs.Policy.Setup.{cluster_times, cpus_of, times_for}
use Rattle.plain_cluster.specs.Entries.{Slotted, entries_of, is_unbound_to}
use Rattle.plain_cluster.proofs.plain.PlainClusterCluster.look.Goals as goal

pub returns-clause-load : goal.returns-clause-load
returns-clause-load c = λ times is.
    let i = c.self.inside in
    let q = i.queue in
    let b = c.args.b in
    let v = c.args.self.now in
    let count : c.count_unbound-count.result ≡ count_by (is_unbound_to b) (entries_of q.rows.rows) =
    c.count_unbound-count.ensures.count ∙ (ap (λ (rs : List Slotted). length (filter (is_unbound_to b) (entries_of rs))) c.as_slice.ensures ∙ length-filter (is_unbound_to b) (entries_of q.rows.rows)) in
    let more = count ∙ ap (λ (w : ClusterView). count_by (is_unbound_to b) w.flat.entries) c.self.view_is in
    let quantum : c.times-quantum.result ≡ times =
    c.times-quantum.ensures.times ∙ (ap (λ (w : ClusterView). times_for (cluster_times w.setup w.number) b) c.self.view_is ∙ sym is) in
    let cpus = c.from.ensures ∙ (c.cpus-cpus.ensures.cpus ∙ ap (λ (w : ClusterView). cpus_of w.setup w.number) c.self.view_is) in
    ap₂ (λ (m n : ℕ). m / n) (ap₂ (λ (m : ℕ) (t : Times). m * t.quantum) more quantum) cpus
