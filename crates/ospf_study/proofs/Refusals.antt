-- Words that clap refuses are refused for one of the kinds of its definition.
use Rattle.std.proofs.Common.{◌≡◌, List, true, IfErr, Result, Ok, Err, ap, sym, subst, ◌∙◌, inl, inr}
use Rattle.std.specs.Result.{IsErrAnd}
use Rattle.clap.specs.Simple.{App}
use Rattle.clap.specs.Walk.{Text}
use Rattle.clap.specs.Words.{HasKind, IsAmong, Kinds, fault_of, is_simple_and_free, kind_of}
use Rattle.clap.specs.declared.error.Error.{Error}
use Rattle.clap.specs.declared.error.kind.ErrorKind.{ErrorKind}
use Rattle.host_arguments.specs.OptionsFaults.{IsFaultOf, IsRefusal}
use Rattle.host_arguments.specs.declared.fault.OptionsFault.{OptionsFault}
use Rattle.host_arguments.specs.declared.fault.OptionsFault.TheVariants.{Refused, NotText, OutOfMemory}

-- the command is by its definition
pub has_kind_by : (app command : App) (words : List Text) (e : Error) → command ≡ app
    → (is_simple_and_free command ≡ true → HasKind (fault_of command words) e) → is_simple_and_free app ≡ true → HasKind (fault_of app words) e
has_kind_by app command words e is has = subst (λ (a : App). is_simple_and_free a ≡ true → HasKind (fault_of a words) e) is has

is_refusal : (kinds : Kinds) (e : Error) (fault : OptionsFault) → HasKind kinds e → IsFaultOf e fault → IsRefusal kinds fault
is_refusal kinds e (Refused error) (inl full) (same, other) = absurd (other full)
is_refusal kinds e (Refused error) (inr among) (same, other) =
    let kind = ap kind_of same in
    (subst (λ (k : ErrorKind). IsAmong k kinds) (sym kind) among, λ full. other (sym kind ∙ full))
is_refusal kinds e NotText has end = absurd end
is_refusal kinds e OutOfMemory has end = tt

-- `?` passes the error of clap up
pub refused_by : {T : Type 0} (kinds : Kinds) (e : Error) (r : Result T OptionsFault) → HasKind kinds e → IsErrAnd r (IsFaultOf e)
    → IfErr r (IsRefusal kinds)
refused_by kinds e (Ok x) has is = tt
refused_by kinds e (Err fault) has is = is_refusal kinds e fault has is
