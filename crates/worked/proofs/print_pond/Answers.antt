-- `worked::print_pond` meets its contract: what pond prints for the file of its own tableau is computed. Assumes nothing.
use Rattle.std.proofs.lemmas.Result.{on_ok_weaker, on_err_weaker}
use Rattle.std.specs.Io.KnownBytes.{Appends}
use Rattle.forecast.specs.Failing.{AppendsPrefix}
use Rattle.worked.proofs.Printed.{read_and_printed}
use Rattle.worked.proofs.print_pond.Goals as goal

pub returns-clause-ok : goal.returns-clause-ok
returns-clause-ok g c e = on_ok_weaker c.pond.result (read_and_printed (Appends _ _) _ e) c.pond.ensures.ok

pub returns-clause-err : goal.returns-clause-err
returns-clause-err g c e = on_err_weaker c.pond.result (read_and_printed (AppendsPrefix _ _) _ e) c.pond.ensures.err
