-- Records one after the other.
use Rattle.std.proofs.Common.{◌≡◌, ℕ, ◌+◌, ◌≤◌, true, false, List, [], ◌∷◌, ◌++◌, length, drop, Some, None, Result, Ok}
use Rattle.std.proofs.Common.{refl, sym, ap, ◌∙◌, subst, arith, ◌⊎◌, inl, inr, length-drop}
use Rattle.std.proofs.lemmas.List.{drop-drop}
use Rattle.capture_files.specs.declared.fault.CaptureFault.{CaptureFault}
use Rattle.capture_files.specs.declared.fault.CaptureFault.TheVariants.{CapturedLength}
use Rattle.capture_files.specs.declared.frame.End.{End}
use Rattle.capture_files.specs.declared.pcap.Form.{Form}
use Rattle.capture_files.specs.CaptureTexts.{Packet, CaptureText}
use Rattle.capture_files.specs.Pcap.{header, is_malformed, record_of, end_at, AreRecords, IsPcap, IsMalformedAt, HasRecord, IsPcapFault}

-- ---- as they are read

-- one more record
one_more : (form : Form) (bytes : List ℕ) (packets : List Packet) (rest : List ℕ) (packet : Packet)
    → AreRecords form bytes packets rest → is_malformed form rest ≡ false → record_of form rest ≡ Some packet
    → AreRecords form bytes (packets ++ packet ∷ []) (drop (16 + length packet.bytes) rest)
one_more form bytes [] rest packet h well_formed is =
    let size : ℕ = 16 + length packet.bytes in
    let P : List ℕ → Type 0 = λ b. (is_malformed form b ≡ false) × (record_of form b ≡ Some packet) × (drop size b ≡ drop size rest) in
    subst P (sym h) (well_formed, is, refl)
one_more form bytes (p ∷ packets) rest packet h well_formed is =
    (h.0, h.1, one_more form (drop (16 + length p.bytes) bytes) packets rest packet h.2 well_formed is)

pub next_record : (form : Form) (file : List ℕ) (packets : List Packet) (offset : ℕ) (packet : Packet)
    → AreRecords form (drop 24 file) packets (drop offset file) → is_malformed form (drop offset file) ≡ false
    → record_of form (drop offset file) ≡ Some packet
    → AreRecords form (drop 24 file) (packets ++ packet ∷ []) (drop (offset + (16 + length packet.bytes)) file)
next_record form file packets offset packet h well_formed is =
    subst (AreRecords form (drop 24 file) (packets ++ packet ∷ [])) (drop-drop (16 + length packet.bytes) offset file)
    (one_more form (drop 24 file) packets (drop offset file) packet h well_formed is)

pub parsed_flaw : (file : List ℕ) (fault : CaptureFault) (form : Form) (packets : List Packet) (offset : ℕ) → header file ≡ Ok form
    → offset ≤ length file → AreRecords form (drop 24 file) packets (drop offset file)
    → (fault ≡ CapturedLength offset) × (is_malformed form (drop offset file) ≡ true) → IsPcapFault file fault
parsed_flaw file fault form packets offset headed within records parsed =
    let flaw : IsMalformedAt file offset = record {
      form = form;
      packets = packets;
      headed = headed;
      within = within;
      records = records;
      malformed = parsed.1;
    } in
    subst (IsPcapFault file) (sym parsed.0) flaw

-- after the header stands the record that is read, or the first of those before it
pub first_record : (form : Form) (file : List ℕ) (packets : List Packet) (offset : ℕ) (packet : Packet) → header file ≡ Ok form
    → AreRecords form (drop 24 file) packets (drop offset file) → is_malformed form (drop offset file) ≡ false
    → record_of form (drop offset file) ≡ Some packet → HasRecord file
first_record form file [] offset packet headed h well_formed is = record {
  form = form;
  packet = packet;
  headed = headed;
  well_formed = subst (λ (bytes : List ℕ). is_malformed form bytes ≡ false) (sym h) well_formed;
  first = subst (λ (bytes : List ℕ). record_of form bytes ≡ Some packet) (sym h) is;
}
first_record form file (p ∷ packets) offset packet headed h well_formed is =
    record { form = form; packet = p; headed = headed; well_formed = h.0; first = h.1 }

-- ---- one reading

-- where the records end
abbrev Stops : Form → List ℕ → Type 0
Stops form rest = (is_malformed form rest ≡ true) ⊎ (record_of form rest ≡ None)

goes_on : (form : Form) (bytes : List ℕ) (packet : Packet) → is_malformed form bytes ≡ false → record_of form bytes ≡ Some packet
    → Stops form bytes → ⊥
goes_on form bytes packet well_formed is (inl malformed) = let no : false ≡ true = sym well_formed ∙ malformed in cc
goes_on form bytes packet well_formed is (inr none) = let no : Some packet ≡ None = sym is ∙ none in cc

same_records : (form : Form) (bytes : List ℕ) (ps qs : List Packet) (r s : List ℕ) → AreRecords form bytes ps r
    → AreRecords form bytes qs s → Stops form r → Stops form s → (ps ≡ qs) × (r ≡ s)
same_records form bytes [] [] r s h k x y = (refl, sym h ∙ k)
same_records form bytes [] (q ∷ qs) r s h k x y = absurd (goes_on form bytes q k.0 k.1 (subst (Stops form) (sym h) x))
same_records form bytes (p ∷ ps) [] r s h k x y = absurd (goes_on form bytes p h.0 h.1 (subst (Stops form) (sym k) y))
same_records form bytes (p ∷ ps) (q ∷ qs) r s h k x y =
    let found : Some p ≡ Some q = sym h.1 ∙ k.1 in
    let same : q ≡ p = cc in
    let after : AreRecords form (drop (16 + length p.bytes) bytes) qs s =
    subst (λ (z : Packet). AreRecords form (drop (16 + length z.bytes) bytes) qs s) same k.2 in
    let rest = same_records form (drop (16 + length p.bytes) bytes) ps qs r s h.2 after x y in
    (ap (λ (z : Packet). z ∷ ps) (sym same) ∙ ap (λ (zs : List Packet). q ∷ zs) rest.0, rest.1)

pub same_offset : (file : List ℕ) (a b : ℕ) → a ≤ length file → b ≤ length file → drop a file ≡ drop b file → a ≡ b
same_offset file a b p q e = omega (arith, ap length e, length-drop a file, length-drop b file)

same_form : (file : List ℕ) (f g : Form) → header file ≡ Ok f → header file ≡ Ok g → g ≡ f
same_form file f g h k = let same : ◌≡◌ {A = Result Form CaptureFault} (Ok f) (Ok g) = sym h ∙ k in cc

pub same_parsed : (a b : CaptureText) → a.packets ≡ b.packets → a.end ≡ b.end → a ≡ b
same_parsed a b packets end =
    ap (λ (ps : List Packet). record { packets = ps; end = a.end }) packets
    ∙ ap (λ (e : End). record { packets = b.packets; end = e }) end

pub parsed_one : (file : List ℕ) (a b : CaptureText) → IsPcap file a → IsPcap file b → a ≡ b
parsed_one file a b h k =
    let form : k.form ≡ h.form = same_form file h.form k.form h.headed k.headed in
    let records : AreRecords h.form (drop 24 file) b.packets (drop k.offset file) =
    subst (λ (f : Form). AreRecords f (drop 24 file) b.packets (drop k.offset file)) form k.records in
    let last : record_of h.form (drop k.offset file) ≡ None =
    subst (λ (f : Form). record_of f (drop k.offset file) ≡ None) form k.last in
    let both = same_records h.form (drop 24 file) a.packets b.packets (drop h.offset file) (drop k.offset file)
    h.records records (inr h.last) (inr last) in
    let offset : h.offset ≡ k.offset = same_offset file h.offset k.offset h.within k.within both.1 in
    let end : a.end ≡ b.end = h.ended ∙ ap (end_at file) offset ∙ sym k.ended in
    same_parsed a b both.0 end

pub never_both : (file : List ℕ) (a : CaptureText) (offset : ℕ) → IsPcap file a → IsMalformedAt file offset → ⊥
never_both file a offset h k =
    let form : k.form ≡ h.form = same_form file h.form k.form h.headed k.headed in
    let records : AreRecords h.form (drop 24 file) k.packets (drop offset file) =
    subst (λ (f : Form). AreRecords f (drop 24 file) k.packets (drop offset file)) form k.records in
    let malformed : is_malformed h.form (drop offset file) ≡ true = subst (λ (f : Form). is_malformed f (drop offset file) ≡ true) form k.malformed in
    let both = same_records h.form (drop 24 file) a.packets k.packets (drop h.offset file) (drop offset file)
    h.records records (inr h.last) (inl malformed) in
    let no : false ≡ true = sym h.well_formed ∙ ap (is_malformed h.form) both.1 ∙ malformed in
    cc

pub one_flaw : (file : List ℕ) (m n : ℕ) → IsMalformedAt file m → IsMalformedAt file n → m ≡ n
one_flaw file m n h k =
    let form : k.form ≡ h.form = same_form file h.form k.form h.headed k.headed in
    let records : AreRecords h.form (drop 24 file) k.packets (drop n file) =
    subst (λ (f : Form). AreRecords f (drop 24 file) k.packets (drop n file)) form k.records in
    let malformed : is_malformed h.form (drop n file) ≡ true = subst (λ (f : Form). is_malformed f (drop n file) ≡ true) form k.malformed in
    let both = same_records h.form (drop 24 file) h.packets k.packets (drop m file) (drop n file)
    h.records records (inl h.malformed) (inl malformed) in
    same_offset file m n h.within k.within both.1
