-- In which order a run writes: its replies, then the dump, then the session, and each is flushed before the next is begun.
use Rattle.std.specs.Prelude.{◌≡◌, true, Option}
use Rattle.host_io.specs.declared.watch.Watched.{Watched}
use Rattle.host_io.specs.Watched.{has_failed, is_flushed}
use Rattle.whole_run.specs.Streams.{has_any_failed, is_any_flushed}

-- all three writers are flushed
abbrev pub AreFlushed : {W D E : Type 0} → Watched W → Option (Watched D) → Option (Watched E) → Type 0
AreFlushed replies out save = (is_flushed replies ≡ true) × ((is_any_flushed out ≡ true) × (is_any_flushed save ≡ true))

-- two writers are as they were: nothing was written to them, not even tried
abbrev pub AreUntouched : {V W : Type 0} → V → V → W → W → Type 0
AreUntouched old new old_other new_other = (new ≡ old) × (new_other ≡ old_other)

-- the replies are written before the others: where their writer failed, the others are as they were
abbrev pub RepliesBefore : {W V U : Type 0} → Watched W → V → V → U → U → Type 0
RepliesBefore replies out new_out save new_save = has_failed replies ≡ true → AreUntouched out new_out save new_save

-- the dump is written after the replies and before the session: where its writer failed, the replies are whole and flushed,
-- and the writer of the session is as it was
abbrev pub OutAfter : {W D E : Type 0} → Type 0 → Watched W → Option (Watched D) → Option (Watched E) → Option (Watched E) → Type 0
OutAfter replies_whole replies out save new_save =
    has_any_failed out ≡ true → (is_flushed replies ≡ true) × (replies_whole × (new_save ≡ save))

-- the session is written last: where its writer failed, the replies and the dump are whole and flushed
abbrev pub SaveAfter : {W D E : Type 0} → Type 0 → Type 0 → Watched W → Option (Watched D) → Option (Watched E) → Type 0
SaveAfter replies_whole out_whole replies out save =
    has_any_failed save ≡ true → (is_flushed replies ≡ true) × (replies_whole × ((is_any_flushed out ≡ true) × out_whole))
