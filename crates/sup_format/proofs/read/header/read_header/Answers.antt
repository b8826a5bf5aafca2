use Rattle.std.proofs.Common.{subst}
use Rattle.sup_format.specs.Reading.Headers.{AreHeaderWords, HasParts}
use Rattle.sup_format.proofs.Reading.Firsts.{first_of}
use Rattle.sup_format.proofs.read.header.read_header.Goals as goal

pub returns : goal.returns
returns c = first_of AreHeaderWords c.args.line.now c.read_parts.result c.template_of.result (subst (λ ws. HasParts AreHeaderWords ws c.read_parts.result) c.new.ensures c.read_parts.ensures) c.template_of.ensures
