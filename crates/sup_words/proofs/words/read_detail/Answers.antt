-- A fault is explained by the flag.
use Rattle.std.proofs.Common.{◌∙◌, refl, sym}
use Rattle.std.proofs.lemmas.Bool.{false≢true}
use Rattle.sup_words.proofs.words.read_detail.Goals as goal

pub returns-then-read_flag : goal.returns-then-read_flag
returns-then-read_flag c = record {
  given = λ e. refl;
  left_out = λ e. absurd (false≢true (sym (c.read_flag.ensures.left_out e) ∙ c.if-read_flag.true));
}

pub returns-else-read_flag : goal.returns-else-read_flag
returns-else-read_flag c = record {
  given = λ e. absurd (false≢true (sym c.if-read_flag.false ∙ c.read_flag.ensures.given e));
  left_out = λ e. refl;
}
