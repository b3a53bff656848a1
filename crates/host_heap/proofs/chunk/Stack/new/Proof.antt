-- An empty stack owns nothing, so its top can be null. Assumes `Logic`.
use Rattle.host_heap.proofs.Steps.{◌≡◌, [], ◌∷◌, refl, lit<, Fn, Val, SProp, emp, ftrue, fact, fact_i, tables, ‵, raw, ◌⊛◌, ◌$◌, ◌∵◌, ! }
use Rattle.host_heap.proofs.Steps.{qed, by, move, drop, use0, split, fjoin, agg, lit, no_more, and_then, returns, enter, alloc_all}
use Rattle.host_heap.proofs.Steps.{pass_all, free_all, look_at, sets, owns, null_ptr, types_at, nothing, alive, Stays, walk_of, proved_at}
use Rattle.host_heap.proofs.Steps.{leaves}
use Rattle.host_heap.proofs.Values.{wrap_val, wrap_own, wrap_made}
use Rattle.host_heap.specs.contracts.chunk.Stack as stack
use Rattle.host_heap.specs.contracts.chunk.Stack.new.{ended, clauses}
use Rattle.host_heap.specs.contracts.chunk.Stack.new.Key.{name as #self}
use Rattle.host_heap.proofs.chunk.Stack.new.Statement.{statement}
use Rattle.host_heap.proofs.chunk.Stack.new.Code as compiled

pub new_spec : {M : Type 1} → statement M
new_spec 𝓤 𝓛 𝓜 𝓡 wired =
    let H = 𝓛.H in let En₀ = ended in let c = clauses 𝓛 𝓜.mem 𝓡.returns in let fn : Fn = compiled.function in
    let stays : Stays En₀.signature.params En₀.kept = tt in
    let C = (tables 𝓤 H 𝓜 𝓡 𝓡.env).C in let Λ = (tables 𝓤 H 𝓜 𝓡 𝓡.env).Λ in
    proved_at 𝓛 En₀ stays c 𝓜 𝓡 tt #self fn (compiled.unfolded 𝓤 H 𝓜 𝓡 wired) (λ z are.
    let Post : Val → SProp 𝓤 = (walk_of 𝓛 En₀ stays c).post z in let a = z.0.3 in let vss = z.0.4 in
    let y : (stack.the_row).Denot = record { top = null_ptr; size = 0; count = 0 } in let Holds : Type 0 = y.count ≡ 0 in
    qed 𝓛 ((raw (alive 𝓛 En₀.signature z.0.0 z.0.1) ⊛ ‵ (owns (types_at En₀.signature.params z.0.0) a vss)) ∷ ‵ ftrue ∷ []) ∵ move !
    (1 ∷ []) $ drop ! $ split ! $ move ! (1 ∷ []) $ drop ! $
    enter ! C Λ fn [] Post $
    alloc_all ! (λ l. pass_all ! refl tt $
    sets ! (agg ! (and_then ! (lit ! tt) (no_more !))) refl (tt, (record { fits = lit< tt }, tt)) $
    returns ! (look_at ! 0 refl) $ free_all ! refl $
    nothing ! $ use0 𝓛 (‵ (wrap_own null_ptr (wrap_val null_ptr ∷ []))) (wrap_made 𝓛 null_ptr) $ fjoin ! $
    use0 𝓛 (raw (fact 𝓤 Holds)) (fact_i 𝓤 Holds (emp 𝓤) refl) $ nothing ! $ move ! (3 ∷ 0 ∷ 2 ∷ 1 ∷ []) $
    by ! (leaves 𝓛 En₀ stays c z (wrap_val null_ptr) y tt tt)))
