-- Texts that are joined, piece by piece.
use Rattle.std.proofs.Common.{◌≡◌, ℕ, ◌+◌, ◌<◌, ◌≤◌, List, [], ◌∷◌, ◌++◌, length, map, take, get_or, codes, cond, decimal, Result, Ok, Err, refl, sym, ap, ◌∙◌}
use Rattle.std.specs.Prelude.{flat_map, is_ok, OnOk}
use Rattle.std.specs.List.{join_with_byte}
use Rattle.std.proofs.lemmas.List.{append-nil, append_assoc, take_more, take_all}
use Rattle.std.proofs.lemmas.Grind.{flat_map-append}
use Rattle.lsa_codec.specs.declared.address.RouterId.{RouterId}
use Rattle.lsa_codec.specs.Spelling.{address_text, prefix_text}
use Rattle.next_hops.specs.declared.hop.Hop.{Hop}
use Rattle.next_hops.specs.Hop.{hop_text}
use Rattle.routing_table.specs.Tables.{TableValue}
use Rattle.best_ways.specs.Values.{RouteValue}
use Rattle.table_report.specs.Texts.{area_text, headed, hops_text, kind_text, line_of, lines_text, rest_of, table_text}
use Rattle.table_report.specs.steps.Parts.{hop_after, paths_text, ways_text}
use Rattle.table_report.specs.Comparing.{changes, compare_text}

-- what holds of a call that went well
pub on_ok : {T E P Q : Type 0} (result : Result T E) → (P → Q) → OnOk result P → OnOk result Q
on_ok (Ok t) f p = f p
on_ok (Err e) f p = p

-- one more piece after those so far
pub one_more : {X : Type 0} (f : X → List ℕ) (start : List ℕ) (xs : List X) (i : ℕ) (x : X) → i < length xs → x ≡ get_or xs i x
    → (start ++ flat_map f (take i xs)) ++ f x ≡ start ++ flat_map f (take (i + 1) xs)
one_more f start xs i x lt is =
    append_assoc start (flat_map f (take i xs)) (f x)
    ∙ ap (λ l. start ++ l)
    (ap (λ l. flat_map f (take i xs) ++ l) (sym (append-nil (f x))) ∙ sym (flat_map-append f (take i xs) (x ∷ []))
    ∙ ap (λ y. flat_map f (take i xs ++ y ∷ [])) is ∙ ap (flat_map f) (sym (take_more xs i x lt)))

-- the first hop, and each further one after a comma
pub hops_joined : (first : Hop) (more : List Hop) → hop_text first ++ flat_map hop_after more ≡ hops_text (first ∷ more)
hops_joined first [] = append-nil (hop_text first)
hops_joined first (hop ∷ more) = ap (λ l. hop_text first ++ 44 ∷ l) (hops_joined hop more)

-- all further hops
pub all_more : (start : List ℕ) (hops : List Hop) (i : ℕ) (text : List ℕ) → length hops ≤ i
    → text ≡ start ++ flat_map hop_after (take i hops) → text ≡ start ++ flat_map hop_after hops
all_more start hops i text done so_far = so_far ∙ ap (λ l. start ++ flat_map hop_after l) (take_all i hops done)

-- an area, and all hops
pub ways_joined : {T E : Type 0} (result : Result T E) (old begun new area : List ℕ) (first : Hop) (more hops : List Hop)
    → begun ≡ old ++ (area ++ codes " " ++ hop_text first) → OnOk result (new ≡ begun ++ flat_map hop_after more)
    → hops ≡ first ∷ more → OnOk result (new ≡ old ++ (area ++ codes " " ++ hops_text hops))
ways_joined result old begun new area first more hops begins all are =
    let front = area ++ codes " " in
    let rest = flat_map hop_after more in
    on_ok result
    (λ pushed. pushed ∙ ap (λ l. l ++ rest) begins ∙ append_assoc old (front ++ hop_text first) rest
    ∙ ap (λ l. old ++ l) (append_assoc front (hop_text first) rest ∙ ap (λ l. front ++ l) (hops_joined first more) ∙ ap (λ l. front ++ hops_text l) (sym are)))
    all

module _ {X : Type 0} (line : X → List ℕ) where
  -- a line with its end
  abbrev pub ended : X → List ℕ
  ended x = line x ++ codes "\n"

  -- one more line with its end
  pub line_more : (start : List ℕ) (xs : List X) (i : ℕ) (x : X) (old new : List ℕ) → i < length xs → x ≡ get_or xs i x
      → old ≡ start ++ flat_map ended (take i xs) → new ≡ old ++ ended x → new ≡ start ++ flat_map ended (take (i + 1) xs)
  line_more start xs i x old new lt is so_far push = push ∙ ap (λ l. l ++ ended x) so_far ∙ one_more ended start xs i x lt is

  all_ended : (xs : List X) → flat_map ended xs ≡ lines_text (map line xs)
  all_ended [] = refl
  all_ended (x ∷ xs) = ap (λ l. ended x ++ l) (all_ended xs)

  -- all lines
  pub all_lines : (start : List ℕ) (xs : List X) (i : ℕ) (text : List ℕ) → length xs ≤ i
      → text ≡ start ++ flat_map ended (take i xs) → text ≡ start ++ lines_text (map line xs)
  all_lines start xs i text done so_far = so_far ∙ ap (λ l. start ++ l) (ap (flat_map ended) (take_all i xs done) ∙ all_ended xs)

-- the line of a route by its parts, and its end
paths_then : (kind cost cost2 area hops end : List ℕ)
    → (kind ++ codes " " ++ cost ++ codes " " ++ cost2 ++ codes " ") ++ ((area ++ codes " " ++ hops) ++ end)
    ≡ join_with_byte 32 (kind ∷ cost ∷ cost2 ∷ area ∷ hops ∷ []) ++ end
paths_then kind cost cost2 area hops end = simp append_assoc refl

line_with : (r : RouteValue) (old begun new ways : List ℕ) → begun ≡ old ++ (prefix_text r.net ++ codes " " ++ paths_text r)
    → ways ≡ ways_text r ++ codes "\n" → new ≡ begun ++ ways → new ≡ old ++ (line_of r ++ codes "\n")
line_with r old begun new ways begins are is =
    let net = prefix_text r.net ++ codes " " in
    is ∙ ap (λ l. l ++ ways) begins ∙ ap (λ l. (old ++ (net ++ paths_text r)) ++ l) are
    ∙ append_assoc old (net ++ paths_text r) (ways_text r ++ codes "\n")
    ∙ ap (λ l. old ++ l)
    (append_assoc net (paths_text r) (ways_text r ++ codes "\n")
    ∙ ap (λ l. net ++ l)
    (paths_then (kind_text r.kind) (decimal r.cost) (decimal r.cost2) (area_text r.areas) (hops_text r.hops) (codes "\n"))
    ∙ sym (append_assoc net (rest_of r) (codes "\n")))

pub line_pushed : {T E : Type 0} (result : Result T E) (r : RouteValue) (old begun new ways : List ℕ)
    → begun ≡ old ++ (prefix_text r.net ++ codes " " ++ paths_text r) → ways ≡ ways_text r ++ codes "\n"
    → new ≡ cond (is_ok result) (begun ++ ways) begun → OnOk result (new ≡ old ++ (line_of r ++ codes "\n"))
line_pushed (Ok t) r old begun new ways begins are is = line_with r old begun new ways begins are is
line_pushed (Err e) r old begun new ways begins are is = tt

-- ---- whole texts

headed_by : (word middle number lines : List ℕ)
    → (word ++ 32 ∷ (middle ++ 32 ∷ (number ++ 10 ∷ []))) ++ lines ≡ word ++ codes " " ++ middle ++ codes " " ++ number ++ codes "\n" ++ lines
headed_by word middle number lines =
    let space = codes " " in
    let rest = number ++ codes "\n" in
    sym (ap (λ l. l ++ lines)
    (append_assoc (word ++ space ++ middle ++ space) number (codes "\n") ∙ append_assoc (word ++ space ++ middle) space rest
    ∙ append_assoc (word ++ space) middle (32 ∷ rest) ∙ append_assoc word space (middle ++ 32 ∷ rest)))

-- a head and its lines, after a text
pub pushed_is : (word : List ℕ) (router : RouterId) (lines : List (List ℕ)) (n : ℕ) (old before text : List ℕ)
    → before ≡ old ++ (word ++ 32 ∷ (address_text router.0 ++ 32 ∷ (decimal n ++ 10 ∷ []))) → n ≡ length lines
    → text ≡ before ++ lines_text lines → text ≡ old ++ headed word router lines
pushed_is word router lines n old before text begins count all =
    let head = word ++ 32 ∷ (address_text router.0 ++ 32 ∷ (decimal n ++ 10 ∷ [])) in
    all ∙ ap (λ l. l ++ lines_text lines) begins ∙ append_assoc old head (lines_text lines)
    ∙ ap (λ l. old ++ l) (headed_by word (address_text router.0) (decimal n) (lines_text lines)
    ∙ ap (λ k. word ++ codes " " ++ address_text router.0 ++ codes " " ++ decimal k ++ codes "\n" ++ lines_text lines) count)

-- the same, where the lines are added at once, if there is memory
pub headed_pushed : {T E : Type 0} (result : Result T E) (word : List ℕ) (router : RouterId) (lines : List (List ℕ)) (n : ℕ) (old begun shown new : List ℕ)
    → begun ≡ old ++ (word ++ 32 ∷ (address_text router.0 ++ 32 ∷ (decimal n ++ 10 ∷ []))) → n ≡ length lines → shown ≡ lines_text lines
    → new ≡ cond (is_ok result) (begun ++ shown) begun → OnOk result (new ≡ old ++ headed word router lines)
headed_pushed (Ok t) word router lines n old begun shown new begins count all is =
    pushed_is word router lines n old begun new begins count (is ∙ ap (λ l. begun ++ l) all)
headed_pushed (Err e) word router lines n old begun shown new begins count all is = tt

pub table_text_is : (table : TableValue) → headed (codes "table") table.router (map line_of table.routes) ≡ table_text table
unfolding table_text
table_text_is table = refl

pub compare_text_is : (router : RouterId) (before now : TableValue)
    → headed (codes "compare") router (changes before.routes now.routes) ≡ compare_text router before now
unfolding compare_text
compare_text_is router before now = refl
