-- Blocks one after the other.
use Rattle.std.proofs.Common.{◌≡◌, ◌≢◌, ℕ, ◌+◌, ◌≤◌, true, List, [], ◌∷◌, ◌++◌, length, drop, Option, Some, None, Result, Ok, Err}
use Rattle.std.proofs.Common.{refl, sym, ap, ◌∙◌, subst, ◌⊎◌, inl, inr}
use Rattle.std.proofs.lemmas.List.{drop-drop}
use Rattle.capture_files.specs.declared.block.Flaw.{Flaw}
use Rattle.capture_files.specs.CaptureTexts.{CaptureText}
use Rattle.capture_files.specs.Pcap.{end_at}
use Rattle.capture_files.specs.Pcapng.{State, start, next, has_section, AreBlocks, Reaches, HasKept, HasContent, IsPcapng, IsFlawIn}
use Rattle.capture_files.specs.steps.BlockContents.{IsBlockKept}
use Rattle.capture_files.proofs.Records.{same_offset, same_parsed}

-- ---- as they are read

-- one more block
one_more : (s : State) (bytes : List ℕ) (blocks : List (State × ℕ)) (t : State) (rest : List ℕ) (u : State) (size : ℕ)
    → AreBlocks s bytes blocks t rest → next t rest ≡ Ok (Some (u, size)) → AreBlocks s bytes (blocks ++ (u, size) ∷ []) u (drop size rest)
one_more s bytes [] t rest u size h is =
    let here : next s bytes ≡ Ok (Some (u, size)) = ap (λ (x : State). next x bytes) h.0 ∙ ap (next t) h.1 ∙ is in
    (here, (refl, ap (drop size) h.1))
one_more s bytes (b ∷ blocks) t rest u size h is = (h.0, one_more b.0 (drop b.1 bytes) blocks t rest u size h.1 is)

pub next_block : (file : List ℕ) (t : State) (offset : ℕ) (u : State) (size : ℕ) → Reaches file t offset
    → next t (drop offset file) ≡ Ok (Some (u, size)) → offset + size ≤ length file → Reaches file u (offset + size)
next_block file t offset u size h is within = record {
  blocks = h.blocks ++ (u, size) ∷ [];
  within = within;
  whole =
      subst (λ (rest : List ℕ). AreBlocks start file (h.blocks ++ (u, size) ∷ []) u rest) (drop-drop size offset file)
      (one_more start file h.blocks t (drop offset file) u size h.whole is);
}

-- the block, after which memory ran out
kept_block : (offset : ℕ) (file : List ℕ) (found : Result (Option (State × ℕ)) Flaw) → IsBlockKept offset file found
    → (block : State × ℕ) × ((found ≡ Ok (Some block)) × ((offset + block.1 ≤ length file) × HasKept block.0))
kept_block offset file (Ok (Some block)) h = (block, (refl, h))
kept_block offset file (Ok None) h = absurd h
kept_block offset file (Err flaw) h = absurd h

pub ran_out : (file : List ℕ) (s : State) (offset : ℕ) → has_section file ≡ true → Reaches file s offset
    → IsBlockKept offset file (next s (drop offset file)) → HasContent file
ran_out file s offset headed h kept =
    let block = kept_block offset file (next s (drop offset file)) kept in
    record {
      last = block.0.0;
      offset = offset + block.0.1;
      headed = headed;
      reached = next_block file s offset block.0.0 block.0.1 h block.1.0 block.1.1.0;
      kept = block.1.1.1;
    }

-- a list with one more element
pub one_more_kept : {X : Type 0} (xs : List X) (x : X) → xs ++ x ∷ [] ≢ []
one_more_kept [] x e = absurd cc
one_more_kept (y ∷ ys) x e = absurd cc

-- ---- one reading

-- where the blocks end
abbrev Stops : State → List ℕ → Type 0
Stops s rest = (next s rest ≡ Ok None) ⊎ ((flaw : Flaw) × (next s rest ≡ Err flaw))

abbrev Found : Type 0
Found = Result (Option (State × ℕ)) Flaw

goes_on : (s : State) (bytes : List ℕ) (x : State × ℕ) → next s bytes ≡ Ok (Some x) → Stops s bytes → ⊥
goes_on s bytes x is (inl none) = let no : ◌≡◌ {A = Found} (Ok (Some x)) (Ok None) = sym is ∙ none in cc
goes_on s bytes x is (inr flaw) = let no : ◌≡◌ {A = Found} (Ok (Some x)) (Err flaw.0) = sym is ∙ flaw.1 in cc

same_blocks : (s : State) (bytes : List ℕ) (xs ys : List (State × ℕ)) (t u : State) (r q : List ℕ) → AreBlocks s bytes xs t r
    → AreBlocks s bytes ys u q → Stops t r → Stops u q → (t ≡ u) × (r ≡ q)
same_blocks s bytes [] [] t u r q h k x y = (sym h.0 ∙ k.0, sym h.1 ∙ k.1)
same_blocks s bytes [] (b ∷ ys) t u r q h k x y =
    let here : Stops s r = subst (λ (z : State). Stops z r) (sym h.0) x in
    absurd (goes_on s bytes b k.0 (subst (Stops s) (sym h.1) here))
same_blocks s bytes (a ∷ xs) [] t u r q h k x y =
    let here : Stops s q = subst (λ (z : State). Stops z q) (sym k.0) y in
    absurd (goes_on s bytes a h.0 (subst (Stops s) (sym k.1) here))
same_blocks s bytes (a ∷ xs) (b ∷ ys) t u r q h k x y =
    let found : ◌≡◌ {A = Found} (Ok (Some a)) (Ok (Some b)) = sym h.0 ∙ k.0 in
    let same : b ≡ a = cc in
    let after : AreBlocks a.0 (drop a.1 bytes) ys u q =
    subst (λ (z : State × ℕ). AreBlocks z.0 (drop z.1 bytes) ys u q) same k.1 in
    same_blocks a.0 (drop a.1 bytes) xs ys t u r q h.1 after x y

same_place : (file : List ℕ) (t u : State) (a b : ℕ) → Reaches file t a → Reaches file u b → Stops t (drop a file) → Stops u (drop b file)
    → (t ≡ u) × (a ≡ b)
same_place file t u a b h k x y =
    let both = same_blocks start file h.blocks k.blocks t u (drop a file) (drop b file) h.whole k.whole x y in
    (both.0, same_offset file a b h.within k.within both.1)

pub parsed_one : (file : List ℕ) (a b : CaptureText) → IsPcapng file a → IsPcapng file b → a ≡ b
parsed_one file a b h k =
    let both = same_place file h.last k.last h.offset k.offset h.reached k.reached (inl h.stopped) (inl k.stopped) in
    same_parsed a b (h.packets ∙ ap (λ (s : State). s.packets) both.0 ∙ sym k.packets) (h.ended ∙ ap (end_at file) both.1 ∙ sym k.ended)

pub never_both : (file : List ℕ) (a : CaptureText) (offset : ℕ) (flaw : Flaw) → IsPcapng file a → IsFlawIn file offset flaw → ⊥
never_both file a offset flaw h k =
    let both = same_place file h.last k.last h.offset offset h.reached k.reached (inl h.stopped) (inr (flaw, k.malformed)) in
    let here : next h.last (drop h.offset file) ≡ next k.last (drop offset file) =
    ap (λ (s : State). next s (drop h.offset file)) both.0 ∙ ap (λ (n : ℕ). next k.last (drop n file)) both.1 in
    let no : ◌≡◌ {A = Found} (Ok None) (Err flaw) = sym h.stopped ∙ here ∙ k.malformed in
    cc

pub one_flaw : (file : List ℕ) (m n : ℕ) (x y : Flaw) → IsFlawIn file m x → IsFlawIn file n y → (m ≡ n) × (x ≡ y)
one_flaw file m n x y h k =
    let both = same_place file h.last k.last m n h.reached k.reached (inr (x, h.malformed)) (inr (y, k.malformed)) in
    let here : next h.last (drop m file) ≡ next k.last (drop n file) =
    ap (λ (s : State). next s (drop m file)) both.0 ∙ ap (λ (i : ℕ). next k.last (drop i file)) both.1 in
    let found : ◌≡◌ {A = Found} (Err x) (Err y) = sym h.malformed ∙ here ∙ k.malformed in
    let same : x ≡ y = cc in
    (both.1, same)
