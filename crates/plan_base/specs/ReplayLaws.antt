-- What a disk reads is one of its images, and since its last call there are no others.
use Rattle.std.specs.Prelude.{◌≡◌, ℕ, ◌+◌, ◌≤◌, List, [], ◌∷◌, ◌++◌, length, take, drop, Bool, true, ◌&&◌, nat_le}
use Rattle.std.proofs.Common.{refl, ◌∙◌, ap, arith, inl, inr, append_assoc, length-append, length-drop}
use Rattle.std.proofs.lemmas.List.{take_at, drop_at, length-take-le}
use Rattle.std.proofs.lemmas.Bool.Decides.{nat_tests}
use Rattle.plan_base.specs.Disk.{overwritten, WritesPart, CutsPart}
use Rattle.plan_base.specs.Replay.{content, image_of, image_since, all_fit, newest, fits, acted, images_after}
use Rattle.plan_base.specs.declared.disk_event.DiskEvent.{DiskEvent}
use Rattle.plan_base.specs.declared.disk_event.DiskAct.{DiskAct}
use Rattle.plan_base.specs.declared.disk_event.DiskAct.TheVariants.{Write, Shorten, Sync}

pub length-overwritten : (at : ℕ) (bytes old : List ℕ) → at ≤ length old → length (take at old ++ bytes) ≡ at + length bytes
length-overwritten at bytes old le = length-append (take at old) bytes ∙ ap (λ (n : ℕ). n + length bytes) (length-take-le at old le)

-- a write that is done is one that no crash cut short
pub whole_write : (at : ℕ) (bytes old : List ℕ) → at ≤ length old → WritesPart at (length bytes) old (overwritten at bytes old)
whole_write at bytes old le =
    let rest = drop (at + length bytes) old in
    let front : length (take at old ++ bytes) ≡ at + length bytes = length-overwritten at bytes old le in
    record {
      front = ap (take at) (append_assoc (take at old) bytes rest) ∙ take_at (take at old) (bytes ++ rest) at (length-take-le at old le);
      back = drop_at (take at old ++ bytes) rest (at + length bytes) front;
      least = omega (arith, length-append (take at old ++ bytes) rest, length-drop (at + length bytes) old);
      most = omega (arith, length-append (take at old ++ bytes) rest, length-drop (at + length bytes) old);
    }

pub whole_cut : (n : ℕ) (old : List ℕ) → n ≤ length old → CutsPart n old (take n old)
whole_cut n old le =
    let size : length (take n old) ≡ n = length-take-le n old le in
    record { least = omega arith; front = ap (λ (k : ℕ). take k old) size }

pub le_true : (m n : ℕ) → nat_le m n ≡ true → m ≤ n
le_true m n t = grind (arith, nat_tests)

acted_image : (act : DiskAct) (reads : List ℕ) (images : List ℕ → Type 0) → fits act reads ≡ true → images reads → images_after act reads images (acted act reads)
acted_image (Write at bytes) reads images fit now = (reads, now, whole_write at bytes.items reads (le_true at (length reads) fit))
acted_image (Shorten len) reads images fit now = (reads, now, whole_cut len reads (le_true len (length reads) fit))
acted_image Sync reads images fit now = refl

pub both : (a b : Bool) → (a && b) ≡ true → (a ≡ true) × (b ≡ true)
both a b h = grind arith

pub reads_image : (first : List ℕ) (log : List DiskEvent) → all_fit first log ≡ true → image_of first log (content first log)
reads_image first [] fit = refl
reads_image first (e ∷ earlier) fit =
    let parts = both (fits e.act (content first earlier)) (all_fit first earlier) fit in
    acted_image e.act (content first earlier) (image_of first earlier) parts.0 (reads_image first earlier parts.1)

pub now_since : (first : List ℕ) (log : List DiskEvent) (moment : ℕ) (c : List ℕ) → image_of first log c → image_since first log moment c
now_since first [] moment c now = now
now_since first (e ∷ earlier) moment c now = inl now

pub since_now : (first : List ℕ) (log : List DiskEvent) (moment : ℕ) (c : List ℕ) → newest log ≤ moment → image_since first log moment c → image_of first log c
since_now first [] moment c numbered left = left
since_now first (e ∷ earlier) moment c numbered (inl now) = now
since_now first (e ∷ earlier) moment c numbered (inr before) = absurd (omega (arith, before.0))
