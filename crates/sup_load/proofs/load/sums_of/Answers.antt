-- The report's numbers are counts of updates, and the sums have them.
use Rattle.std.proofs.Common.{refl}
use Rattle.sup_load.proofs.Counting.{counted}
use Rattle.sup_load.proofs.load.sums_of.Goals as goal

pub returns-clause-sums : goal.returns-clause-sums
returns-clause-sums g c = λ moment plan run. counted _ run.before c.args.report.now _ run.new run.ran.counts refl
