-- What holds of a call that went well.
use Rattle.std.proofs.Common.{Result, Ok, Err}
use Rattle.std.specs.Prelude.{OnOk}

pub on_ok : {T E P Q : Type 0} (result : Result T E) → (P → Q) → OnOk result P → OnOk result Q
on_ok (Ok t) f p = f p
on_ok (Err e) f p = p

-- what holds whatever becomes of the call
pub always : {T E P : Type 0} (result : Result T E) → P → OnOk result P
always (Ok t) p = p
always (Err e) p = tt
