use Rattle.std.proofs.Common.{◌≡◌, ℕ, ◌+◌, ◌++◌, ◌∷◌, Bool, List, [], true, false, eqb, cond, get_or, drop, Some, None, sym, ap, ◌∙◌, arith}
use Rattle.std.specs.List.{list_all}
use Rattle.std.proofs.lemmas.Bool.{eq-eqb, ne_eqb}
use Rattle.snmp_walk.specs.Text.{is_blank}
use Rattle.snmp_walk.specs.Values.{quoted_after}
use Rattle.snmp_walk.proofs.Values.{rest_at}
use Rattle.snmp_walk.proofs.Quotes.{quoted_escaped, quoted_closing, quoted_escaping, quoted_plain, quoted_open}
use Rattle.snmp_walk.proofs.value.quoted.Goals as goal
use Rattle.snmp_walk.proofs.value.quoted.Goals.{then-escaped+in_ok-push, else-escaped+else-byte-eq34+then-byte-eq92}
use Rattle.snmp_walk.proofs.value.quoted.Goals.{else-escaped+else-byte-eq34+else-byte-eq92+in_ok-push-2}

pub returns-then-are_blanks : goal.returns-then-are_blanks
returns-then-are_blanks g c =
    let text : List ℕ = c.args.text.now in
    let i : ℕ = c.loop-index.index in
    let bytes : List ℕ = c.loop-index.bytes.items in
    let here : eqb (get_or text i 0) 0x22 ≡ true = eq-eqb (get_or text i 0) 0x22 c.if-byte-eq34.true in
    let blank : list_all is_blank (drop (i + 1) text) ≡ true =
    ap (list_all is_blank) (sym (rest_at text (i + 1))) ∙ sym c.are_blanks.ensures ∙ c.if-are_blanks.true in
    sym (ap (λ b. cond b (Some bytes) None) blank) ∙ sym (quoted_closing bytes text i (omega arith) here)
    ∙ ap (λ e. quoted_after bytes e (drop i text)) (sym c.if-escaped.false) ∙ c.loop-index.invariant

pub returns-then-byte-eq34 : goal.returns-then-byte-eq34
returns-then-byte-eq34 g c =
    let text : List ℕ = c.args.text.now in
    let i : ℕ = c.loop-index.index in
    let bytes : List ℕ = c.loop-index.bytes.items in
    let here : eqb (get_or text i 0) 0x22 ≡ true = eq-eqb (get_or text i 0) 0x22 c.if-byte-eq34.true in
    let blank : list_all is_blank (drop (i + 1) text) ≡ false =
    ap (list_all is_blank) (sym (rest_at text (i + 1))) ∙ sym c.are_blanks.ensures ∙ c.if-are_blanks.false in
    sym (ap (λ b. cond b (Some bytes) None) blank) ∙ sym (quoted_closing bytes text i (omega arith) here)
    ∙ ap (λ e. quoted_after bytes e (drop i text)) (sym c.if-escaped.false) ∙ c.loop-index.invariant

pub loop-index-preserved : goal.loop-index-preserved
loop-index-preserved g c =
    let text : List ℕ = c.args.text.now in
    let i : ℕ = c.loop-index.index in
    let bytes : List ℕ = c.loop-index.bytes.items in
    let x : ℕ = get_or text i 0 in
    let next : List ℕ = drop (i + 1) text in
    let bytes' : List ℕ = c.if-escaped.bytes.items in
    let escaped' : Bool = c.if-escaped.escaped in
    let to : (os : List ℕ) (e : Bool) → bytes' ≡ os → escaped' ≡ e → quoted_after os e next ≡ quoted_after [] false text
    → quoted_after bytes' escaped' next ≡ quoted_after [] false text =
    λ (os : List ℕ) (e : Bool) (p : bytes' ≡ os) (q : escaped' ≡ e) (h : quoted_after os e next ≡ quoted_after [] false text). rw (p, q) h in
    let from : (e : Bool) → c.loop-index.escaped ≡ e → quoted_after bytes e (drop i text) ≡ quoted_after [] false text =
    λ (e : Bool) (p : c.loop-index.escaped ≡ e). ap (λ e. quoted_after bytes e (drop i text)) (sym p) ∙ c.loop-index.invariant in
    elim c.if-escaped.branch [
      | then-escaped+in_ok-push w ↦
          to (bytes ++ x ∷ []) false (ap (λ v. v.items) w.bytes-is ∙ w.in_ok-push.ensures.items) w.escaped-is
          (sym (quoted_escaped bytes text i (omega arith)) ∙ from true w.if-escaped.true)
      | else-escaped+else-byte-eq34+then-byte-eq92 w ↦
          to bytes true (ap (λ v. v.items) w.bytes-is) w.escaped-is
          (sym (quoted_escaping bytes text i (omega arith) (ne_eqb x 0x22 w.if-byte-eq34.false) (eq-eqb x 0x5c w.if-byte-eq92.true))
          ∙ from false w.if-escaped.false)
      | else-escaped+else-byte-eq34+else-byte-eq92+in_ok-push-2 w ↦
          to (bytes ++ x ∷ []) false (ap (λ v. v.items) w.bytes-is ∙ w.in_ok-push-2.ensures.items) (w.escaped-is ∙ w.if-escaped.false)
          (sym (quoted_plain bytes text i (omega arith) (ne_eqb x 0x22 w.if-byte-eq34.false) (ne_eqb x 0x5c w.if-byte-eq92.false))
          ∙ from false w.if-escaped.false)
    ]

pub returns : goal.returns
returns g c =
    sym (quoted_open c.loop-index.bytes.items c.args.text.now c.loop-index.escaped c.loop-index.index (omega arith)) ∙ c.loop-index.invariant
