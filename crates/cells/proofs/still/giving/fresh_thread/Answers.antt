use Rattle.std.proofs.Common.{◌≡◌, sym, subst, rules}
use Rattle.trace_text.specs.Runs.{program_of}
use Rattle.cells.specs.Courses.{OnCourse}
use Rattle.cells.specs.Making.{made_of}
use Rattle.cells.proofs.Programs.{made_on_course}
use Rattle.cells.proofs.still.giving.fresh_thread.Goals as goal

pub returns-clause-course : goal.returns-clause-course
returns-clause-course g c =
    let thread : c.new.result ≡ made_of g.N.RunName.setup (program_of c.args.p.now) c.args.moment = search rules in
    subst (OnCourse g.N.RunName.setup g.N.RunName.programs) (sym thread)
    (made_on_course g.N.RunName.setup g.N.RunName.programs (program_of c.args.p.now) c.args.moment c.requires.runnable c.requires.program)
