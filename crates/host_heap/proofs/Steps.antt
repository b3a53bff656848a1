-- The names that every walk of this crate cites.
pub use Rattle.std.proofs.Common.{◌≡◌, ℕ, zero, suc, ◌+◌, ◌-◌, ◌%◌, ◌^◌, ◌<◌, ◌≤◌, List, [], ◌∷◌, ◌++◌, refl, sym, ap, subst, ◌∙◌, arith, lit<, w64}
pub use mir.Syntax.{Ty, Fn, ty_ptr}
pub use mir.Val.{Val, vint, vptr, vunit, vcons, vnil}
pub use base.Fraction.{full_share}
pub use base.Logic.{SProp, emp, never, id⊢}
pub use base.Fml.{ftrue, fsep, fwand, fat, froom}
pub use prog.Wp.{Env, WpFn}
pub use contract.Monad.{fact, fact_i}
pub use contract.Running.{tables}
pub use types.Kit.{‵, raw, ◌⊛◌, some, later, prop, at_ret, ◌$◌, ◌∵◌, !, qed, by, move, keep, drop, use0, use1, use2, split, split3, join}
pub use types.Kit.{pick, rewrite, regoal, fsplit, fjoin, fpick, fpack, feq_l, feq_i, flt_i, await}
pub use types.Part.{whole, sub, agg}
pub use types.Run.{stop, fld, load, look, lit, unit_lit, bin, init, of_opd, no_more, and_then, assigns_last, first, blocks, exec, returns, enter}
pub use types.ByLocal.{alloc_all, pass_all, free_all, look_at, get, get_in, through, sets, sets_last, lands_as, is, env}
pub use denote.RattleType.{RattleType, owns}
pub use denote.RawPtr.{Ptr, RawPtr, block_ptr, null_ptr, ptr_val, in_a_block, room_for}
pub use denote.Signature.{Slot, plain, types_at}
pub use denote.Builtin.{unit, usize}
pub use denote.Steps.{nothing, heard, only}
pub use denote.Struct.Tuple.{Tuple}
pub use denote.Triple.Entry.{alive}
pub use denote.Triple.Walked.{Stays, stay_dropped, walk_of, Goes-dropped}
pub use Rattle.core.proofs.alloc.Calls.{Goes-blank}
pub use Rattle.core.proofs.alloc.Shapes.{after}
pub use Rattle.std_alloc.proofs.ResultValues.{and_tt}
pub use Rattle.std_alloc.proofs.Pairs.{pair_of, pair_val}
pub use Rattle.std.proofs.raw_atomic.Walks.{proved_at, leaves}

abbrev pub slot_at : {n : ℕ} → ℕ → List (Slot n) → Slot n
slot_at k [] = plain (λ _. unit)
slot_at zero (s ∷ ss) = s
slot_at (suc k) (s ∷ ss) = slot_at k ss
