-- A reading fails where a step of it fails.
use Rattle.std.proofs.Common.{Result, ap, inl, inr}
use Rattle.lsdb.specs.declared.fault.DumpFault.{DumpFault}
use Rattle.lsdb.specs.Loading.{◌>>=◌, IsFirstFault}

pub fails_on : {A B : Type 0} (fault : DumpFault) (r : Result A DumpFault) (f : A → Result B DumpFault) → IsFirstFault fault r → IsFirstFault fault (r >>= f)
fails_on {A} {B} fault r f (inl memory) = inl memory
fails_on {A} {B} fault r f (inr is) = inr (ap (λ (x : Result A DumpFault). x >>= f) is)
