-- The flag is what clap's row of its name says.
use Rattle.std.proofs.Common.{◌∙◌}
use Rattle.clap.proofs.WalkLemmas.{one_text-rows}
use Rattle.clap.specs.Words.{found_of}
use Rattle.sup_words.proofs.words.read_flag.Goals as goal

pub returns : goal.returns
returns c = record {
  given = λ e. c.get_flag.ensures.value (one_text-rows (found_of c.args.words.now) c.args.name.now ∙ e);
  left_out = λ e. c.get_flag.ensures.other (one_text-rows (found_of c.args.words.now) c.args.name.now ∙ e);
}
