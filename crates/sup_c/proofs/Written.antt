-- What holds of a call that was not refused.
use Rattle.std.proofs.Common.{◌≡◌, false}
use Rattle.std.specs.Prelude.{Result, Ok, Err, is_err, OnOk}

pub ok_from : {T E : Type 0} (P : Type 0) (r : Result T E) → is_err r ≡ false → OnOk r P → P
ok_from P (Ok x) e p = p
ok_from P (Err x) e p = absurd (cc)
