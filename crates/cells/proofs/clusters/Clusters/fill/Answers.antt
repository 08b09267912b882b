use Rattle.cells.proofs.Filling.{new_places}
use Rattle.cells.proofs.clusters.Clusters.fill.Goals as goal

pub returns-clause-places : goal.returns-clause-places
returns-clause-places g c = new_places _ _ _ _ _ _ _ _ _ (rw c.requires.setup at c.keeps_ranges.ensures.clusters_most) c.in_ok-fill_in-8.ensures.place c.in_ok-fill_in-7.ensures.place c.in_ok-fill_in-6.ensures.place c.in_ok-fill_in-5.ensures.place c.in_ok-fill_in-4.ensures.place c.in_ok-fill_in-3.ensures.place c.in_ok-fill_in-2.ensures.place c.in_ok-fill_in.ensures.place
