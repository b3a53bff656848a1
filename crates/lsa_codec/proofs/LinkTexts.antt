-- Bytes that are links, one after another, and router-LSAs made of them.
use Rattle.std.proofs.Common.{◌≡◌, ℕ, zero, suc, ◌+◌, ◌-◌, ◌*◌, ◌≤◌, ◌<◌, Bool, true, eqb, List, [], ◌∷◌, ◌++◌, take, length, get_or, map, refl, sym}
use Rattle.std.proofs.Common.{ap, ◌∙◌, arith, inl, inr, ◌⊎◌}
use Rattle.std.specs.List.{list_all, flat_map, All}
use Rattle.std.proofs.lemmas.List.{length-append, length-take, get_or_append_left, get_or-append_right, get_or-take}
use Rattle.std.proofs.lemmas.List.Elements.{All-head, All-tail, All-weaker}
use Rattle.std.proofs.lemmas.List.Folds.{list_all-map}
use Rattle.std.proofs.lemmas.Bool.{and_from, eq-eqb, le-leb}
use Rattle.byteorder.specs.Endian.{big_bytes}
use Rattle.lsa_codec.specs.declared.link.Link.{Link}
use Rattle.lsa_codec.specs.Fields.{number_at, byte_at, put_number, kind_of, length_of}
use Rattle.lsa_codec.specs.Checksum.{is_checksum_good}
use Rattle.lsa_codec.specs.Links.{after_links, links_from, link_at, link_length, link_count, links_of, unplaced}
use Rattle.lsa_codec.specs.Accepted.{IsAccepted, has_whole_links, is_link_mask_good, is_link_cost_good}
use Rattle.lsa_codec.specs.Making.{recounted}
use Rattle.lsa_codec.proofs.Bytes.{number_at-same, number_at-put, length-put_at, get_or-put_before, get_or-put_after}
use Rattle.lsa_codec.proofs.LinkWalk.{after_links_next, links_from_next}
use Rattle.lsa_codec.proofs.Made.{with_checksum-good, checksum_made}

-- these bytes are in the bytes from an offset on
pub record StandsAt (offset : ℕ) (text bytes : List ℕ) : Type 0 where
  pub here : (j : ℕ) → j < length text → get_or bytes (offset + j) 0 ≡ get_or text j 0

pub number_at-moved : (n i offset : ℕ) (text bytes : List ℕ) → StandsAt offset text bytes
    → i + n ≤ length text → number_at n (offset + i) bytes ≡ number_at n i text
number_at-moved zero i offset text bytes at fits = refl
number_at-moved (suc n) i offset text bytes at fits =
    let here = at.here i (omega arith) in
    let next : suc (offset + i) ≡ offset + suc i = omega arith in
    let rest : number_at n (suc (offset + i)) bytes ≡ number_at n (suc i) text =
    ap (λ k. number_at n k bytes) next ∙ number_at-moved n (suc i) offset text bytes at (omega arith) in
    rw (here, rest) refl

pub link_at-moved : (offset : ℕ) (text bytes : List ℕ) → StandsAt offset text bytes → 12 ≤ length text
    → unplaced (link_at offset bytes) ≡ link_at 0 text
link_at-moved offset text bytes at long =
    let start : offset + 0 ≡ offset = omega arith in
    let id : number_at 4 offset bytes ≡ number_at 4 0 text =
    ap (λ k. number_at 4 k bytes) (sym start) ∙ number_at-moved 4 0 offset text bytes at (omega arith) in
    let data' = number_at-moved 4 4 offset text bytes at (omega arith) in
    let kind = at.here 8 (omega arith) in
    let metric = number_at-moved 2 10 offset text bytes at (omega arith) in
    rw (id, data', kind, metric) refl

-- a text that is one link, which an accepted LSA may hold
pub record IsLinkText (text : List ℕ) : Type 0 where
  pub size : length text ≡ link_length 0 text
  pub mask : is_link_mask_good (link_at 0 text) ≡ true
  pub cost : is_link_cost_good (link_at 0 text) ≡ true

-- the walk along link texts
pub record Walks (count offset : ℕ) (texts : List (List ℕ)) (total : ℕ) (bytes : List ℕ) : Type 0 where
  pub ends : after_links count offset bytes ≡ offset + total
  pub links : map unplaced (links_from count offset bytes) ≡ map (link_at 0) texts

pub stands_first : (offset : ℕ) (a b bytes : List ℕ) → StandsAt offset (a ++ b) bytes → StandsAt offset a bytes
stands_first offset a b bytes at =
    record { here = λ j lt. at.here j (omega (arith, length-append a b)) ∙ get_or_append_left a b 0 j lt }

pub stands_rest : (offset : ℕ) (a b bytes : List ℕ) → StandsAt offset (a ++ b) bytes → StandsAt (offset + length a) b bytes
stands_rest offset a b bytes at =
    record {
      here = λ j lt.
          let place : offset + length a + j ≡ offset + (length a + j) = omega arith in
          let back : length a + j - length a ≡ j = omega arith in
          ap (λ k. get_or bytes k 0) place ∙ at.here (length a + j) (omega (arith, length-append a b))
          ∙ get_or-append_right a b (length a) (length a + j) 0 refl (omega arith) ∙ ap (λ k. get_or b k 0) back;
    }

pub walks : {X : Type 0} (text : X → List ℕ) (xs : List X) (offset : ℕ) (bytes : List ℕ)
    → All (λ x. IsLinkText (text x)) xs → StandsAt offset (flat_map text xs) bytes
    → Walks (length xs) offset (map text xs) (length (flat_map text xs)) bytes
unfolding after_links links_from
walks text [] offset bytes good at = record { ends = omega arith; links = refl }
walks text (x ∷ xs) offset bytes good at =
    let t : List ℕ = text x in
    let first = stands_first offset t (flat_map text xs) bytes at in
    let one : IsLinkText t = All-head (λ x. IsLinkText (text x)) x xs good in
    let size : length t ≡ 12 + 4 * byte_at 9 t = one.size in
    let byte : byte_at (offset + 9) bytes ≡ byte_at 9 t = first.here 9 (omega arith) in
    let step : link_length offset bytes ≡ length t = omega arith in
    let link = link_at-moved offset t bytes first (omega arith) in
    let rest = walks text xs (offset + length t) bytes (All-tail (λ x. IsLinkText (text x)) x xs good) (stands_rest offset t (flat_map text xs) bytes at) in
    let long = length-append t (flat_map text xs) in
    record {
      ends =
          after_links_next (suc (length xs)) (length xs) offset bytes refl ∙ ap (λ (k : ℕ). after_links (length xs) (offset + k) bytes) step ∙ rest.ends
          ∙ omega (arith, long);
      links =
          ap (map unplaced) (links_from_next (suc (length xs)) (length xs) offset bytes refl
          ∙ ap (λ (k : ℕ). link_at offset bytes ∷ links_from (length xs) (offset + k) bytes) step)
          ∙ ap (λ (l : Link). l ∷ map unplaced (links_from (length xs) (offset + length t) bytes)) link ∙ ap (λ (ls : List Link). link_at 0 t ∷ ls) rest.links;
    }

-- bytes outside of a number that is written
pub byte_outside : (offset v i : ℕ) (bytes : List ℕ) → offset + 2 ≤ length bytes
    → (i < offset) ⊎ (offset + 2 ≤ i) → get_or (put_number 2 offset v bytes) i 0 ≡ get_or bytes i 0
byte_outside offset v i bytes fits (inl before) = get_or-put_before offset (big_bytes 2 v) bytes i (omega arith) before
byte_outside offset v i bytes fits (inr after) = get_or-put_after offset (big_bytes 2 v) bytes i (omega arith) after

-- the bytes with the number of links, length and checksum set again
pub record Recounted (count : ℕ) (bytes a : List ℕ) : Type 0 where
  pub size : length a ≡ length bytes
  pub header : (i : ℕ) → i < 16 → get_or a i 0 ≡ get_or bytes i 0
  pub flags : get_or a 20 0 ≡ get_or bytes 20 0
  pub body : (i : ℕ) → 24 ≤ i → get_or a i 0 ≡ get_or bytes i 0
  pub links : number_at 2 22 a ≡ count
  pub length : length_of a ≡ length bytes
  pub checksum : is_checksum_good a ≡ true

pub recounted_is : (count : ℕ) (bytes : List ℕ) → 24 ≤ length bytes → length bytes < 65536 → count < 65536
    → Recounted count bytes (recounted count bytes)
recounted_is count bytes header short small =
    let counted : List ℕ = put_number 2 22 count bytes in
    let sized : List ℕ = put_number 2 18 (length bytes) counted in
    let a : List ℕ = recounted count bytes in
    let size_1 : length counted ≡ length bytes = length-put_at 22 (big_bytes 2 count) bytes (omega arith) in
    let size_2 : length sized ≡ length counted = length-put_at 18 (big_bytes 2 (length bytes)) counted (omega arith) in
    let size_3 : length a ≡ length sized = length-put_at 16 (big_bytes 2 (checksum_made sized)) sized (omega arith) in
    let step_3 = λ (i : ℕ) (away : (i < 16) ⊎ (18 ≤ i)). byte_outside 16 (checksum_made sized) i sized (omega arith) away in
    let step_2 = λ (i : ℕ) (away : (i < 18) ⊎ (20 ≤ i)). byte_outside 18 (length bytes) i counted (omega arith) away in
    let step_1 = λ (i : ℕ) (away : (i < 22) ⊎ (24 ≤ i)). byte_outside 22 count i bytes (omega arith) away in
    record {
      size = omega arith;
      header = λ i lt. step_3 i (inl lt) ∙ step_2 i (inl (omega arith)) ∙ step_1 i (inl (omega arith));
      flags = step_3 20 (inr (omega arith)) ∙ step_2 20 (inr (omega arith)) ∙ step_1 20 (inl (omega arith));
      body = λ i le. step_3 i (inr (omega arith)) ∙ step_2 i (inr (omega arith)) ∙ step_1 i (inr le);
      links =
          number_at-same 2 22 a counted (λ j lo hi. step_3 j (inr (omega arith)) ∙ step_2 j (inr (omega arith)))
          ∙ number_at-put 22 count bytes (omega arith) small;
      length =
          number_at-same 2 18 a sized (λ j lo hi. step_3 j (inr (omega arith)))
          ∙ number_at-put 18 (length bytes) counted (omega arith) short;
      checksum = with_checksum-good sized (omega arith);
    }

-- each link has at least 12 bytes
pub texts_long : {X : Type 0} (text : X → List ℕ) (xs : List X) → All (λ x. IsLinkText (text x)) xs
    → 12 * length xs ≤ length (flat_map text xs)
texts_long text [] good = omega arith
texts_long text (x ∷ xs) good =
    let one = All-head (λ x. IsLinkText (text x)) x xs good in
    let rest = texts_long text xs (All-tail (λ x. IsLinkText (text x)) x xs good) in
    omega (arith, rest, one.size, length-append (text x) (flat_map text xs))

pub list_all-links : {X : Type 0} (p : Link → Bool) (text : X → List ℕ) (xs : List X)
    → All (λ x. p (link_at 0 (text x)) ≡ true) xs → list_all p (map (link_at 0) (map text xs)) ≡ true
list_all-links p text [] good = refl
list_all-links p text (x ∷ xs) good =
    and_from _ _ (All-head (λ x. p (link_at 0 (text x)) ≡ true) x xs good) (list_all-links p text xs (All-tail (λ x. p (link_at 0 (text x)) ≡ true) x xs good))

-- the bytes before the links of an LSA, and these link texts
abbrev pub body_of : {X : Type 0} → (X → List ℕ) → List X → List ℕ → List ℕ
body_of text xs lsa = take 24 lsa ++ flat_map text xs

pub accepted_texts : {X : Type 0} (text : X → List ℕ) (xs : List X) (lsa : List ℕ) → IsAccepted lsa → kind_of lsa ≡ 1 → 24 ≤ length lsa
    → All (λ x. IsLinkText (text x)) xs → 24 + length (flat_map text xs) < 65536 → IsAccepted (recounted (length xs) (body_of text xs lsa))
accepted_texts text xs lsa old kind long good short =
    let texts : List ℕ = flat_map text xs in
    let bytes : List ℕ = body_of text xs lsa in
    let a : List ℕ = recounted (length xs) bytes in
    let front : length (take 24 lsa) ≡ 24 = omega (arith, length-take 24 lsa) in
    let size : length bytes ≡ 24 + length texts = omega (arith, length-append (take 24 lsa) texts) in
    let few = texts_long text xs good in
    let new = recounted_is (length xs) bytes (omega arith) (omega arith) (omega arith) in
    let head = λ (i : ℕ) (lt : i < 16). new.header i lt ∙ get_or_append_left (take 24 lsa) texts 0 i (omega arith) ∙ get_or-take 24 lsa i 0 (omega arith) in
    let at : StandsAt 24 texts a = record {
      here = λ j lt.
          let back : 24 + j - 24 ≡ j = omega arith in
          new.body (24 + j) (omega arith) ∙ get_or-append_right (take 24 lsa) texts 24 (24 + j) 0 front (omega arith) ∙ ap (λ k. get_or texts k 0) back;
    } in
    let walk = walks text xs 24 a good at in
    let kind_a : get_or a 3 0 ≡ 1 = head 3 (omega arith) ∙ kind in
    let id : number_at 4 4 a ≡ number_at 4 4 lsa = number_at-same 4 4 a lsa (λ j lo hi. head j (omega arith)) in
    let adv : number_at 4 8 a ≡ number_at 4 8 lsa = number_at-same 4 8 a lsa (λ j lo hi. head j (omega arith)) in
    let ends : after_links (link_count a) 24 a ≡ length a = ap (λ n. after_links n 24 a) new.links ∙ walk.ends ∙ omega (arith, new.size) in
    let shape : has_whole_links a ≡ true = and_from _ _ (le-leb _ _ (omega (arith, new.size))) (eq-eqb _ _ ends) in
    let links : map unplaced (links_of a) ≡ map (link_at 0) (map text xs) = ap (λ n. map unplaced (links_from n 24 a)) new.links ∙ walk.links in
    let masks : list_all is_link_mask_good (links_of a) ≡ true =
    sym (list_all-map is_link_mask_good unplaced (links_of a)) ∙ ap (list_all is_link_mask_good) links
    ∙ list_all-links is_link_mask_good text xs
    (All-weaker (λ x. IsLinkText (text x)) (λ x. is_link_mask_good (link_at 0 (text x)) ≡ true) (λ x g. g.mask) xs good) in
    let costs : list_all is_link_cost_good (links_of a) ≡ true =
    sym (list_all-map is_link_cost_good unplaced (links_of a)) ∙ ap (list_all is_link_cost_good) links
    ∙ list_all-links is_link_cost_good text xs
    (All-weaker (λ x. IsLinkText (text x)) (λ x. is_link_cost_good (link_at 0 (text x)) ≡ true) (λ x g. g.cost) xs good) in
    let origin : eqb (number_at 4 4 lsa) (number_at 4 8 lsa) ≡ true = rw kind at old.origin in
    record {
      header = omega (arith, new.size);
      short = omega (arith, new.size);
      length = new.length ∙ sym new.size;
      kind = rw kind_a refl;
      body = rw kind_a shape;
      checksum = new.checksum;
      masks = rw kind_a masks;
      origin = rw (kind_a, id, adv) origin;
      costs = rw kind_a costs;
    }
