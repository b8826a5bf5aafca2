use Rattle.std.proofs.Common.{◌<◌, arith, subst, sym}
use Rattle.std.specs.Str.{IsUtf8}
use Rattle.std.proofs.lemmas.Str.{IsUtf8-from_ascii}
use Rattle.std.proofs.lemmas.Str.Ascii.{IsAscii-from_all}
use Rattle.std.proofs.lemmas.List.Elements.{All-weaker}
use Rattle.sup_types.specs.Text.{IsVisible}
use Rattle.sup_types.proofs.text.Text.as_str.Goals as goal

-- Visible characters are ASCII, so the bytes are UTF-8.
pub unreachable-requires : goal.unreachable-requires
unreachable-requires c =
    let bytes = c.args.self.now in
    let ascii = All-weaker IsVisible (λ b. b < 128) (λ b h. omega (arith, h.1)) bytes c.bytes.ensures.text.2 in
    c.in_default.ensures.cases.0 (subst IsUtf8 (sym c.bytes.ensures.value) (IsUtf8-from_ascii bytes (IsAscii-from_all bytes ascii)))
