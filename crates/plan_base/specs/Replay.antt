-- The images of a disk in memory, from its first content and its calls, the newest call first.
use Rattle.std.specs.Prelude.{◌≡◌, ◌⊎◌, ℕ, ◌<◌, List, [], ◌∷◌, length, take, Bool, true, ◌&&◌, ◌==◌, nat_le, replicate, map, Option, None, Some, Vec, if◌then◌else◌}
use Rattle.std.specs.List.{zip}
use Rattle.std.specs.declared.alloc.Global.{Global}
use Rattle.plan_base.specs.Disk.{overwritten, WritesPart, CutsPart}
use Rattle.plan_base.specs.declared.disk_event.DiskEvent.{DiskEvent}
use Rattle.plan_base.specs.declared.disk_event.DiskAct.{DiskAct}
use Rattle.plan_base.specs.declared.disk_event.DiskAct.TheVariants.{Write, Shorten, Sync}

-- what an act makes of the content
abbrev pub acted : DiskAct → List ℕ → List ℕ
acted (Write at bytes) old = overwritten at bytes.items old
acted (Shorten len) old = take len old
acted Sync old = old

-- what the disk reads
abbrev pub content : List ℕ → List DiskEvent → List ℕ
content first [] = first
content first (e ∷ earlier) = acted e.act (content first earlier)

-- what an act makes of the images of a disk that reads this
abbrev pub images_after : DiskAct → List ℕ → (List ℕ → Type 0) → List ℕ → Type 0
images_after (Write at bytes) reads images c = (d : List ℕ) × images d × WritesPart at (length bytes.items) d c
images_after (Shorten len) reads images c = (d : List ℕ) × images d × CutsPart len d c
images_after Sync reads images c = c ≡ reads

-- what a crash may leave
abbrev pub image_of : List ℕ → List DiskEvent → List ℕ → Type 0
image_of first [] c = c ≡ first
image_of first (e ∷ earlier) c = images_after e.act (content first earlier) (image_of first earlier) c

-- what a crash at a moment from this on might have left
abbrev pub image_since : List ℕ → List DiskEvent → ℕ → List ℕ → Type 0
image_since first [] moment c = c ≡ first
image_since first (e ∷ earlier) moment c = image_of first (e ∷ earlier) c ⊎ ((moment < e.call) × image_since first earlier moment c)

-- an act is in place on such a content
abbrev pub fits : DiskAct → List ℕ → Bool
fits (Write at bytes) old = nat_le at (length old)
fits (Shorten len) old = nat_le len (length old)
fits Sync old = true

abbrev pub all_fit : List ℕ → List DiskEvent → Bool
all_fit first [] = true
all_fit first (e ∷ earlier) = fits e.act (content first earlier) && all_fit first earlier

-- the number of the newest call
abbrev pub newest : List DiskEvent → ℕ
newest [] = 0
newest (e ∷ earlier) = e.call

-- 1 where a byte was written since the last sync, else 0
abbrev pub masked : DiskAct → ℕ → List ℕ → List ℕ
masked (Write at bytes) n mask = overwritten at (replicate (length bytes.items) 1) mask
masked (Shorten len) n mask = take len mask
masked Sync n mask = replicate n 0

abbrev pub mask_of : List ℕ → List DiskEvent → List ℕ
mask_of first [] = replicate (length first) 0
mask_of first (e ∷ earlier) = masked e.act (length (content first earlier)) (mask_of first earlier)

-- a byte where the mask is 1
abbrev pub painted : ℕ → List ℕ → List ℕ → List ℕ
painted byte bytes mask = map (λ p. if p.1 == 1 then byte else p.0) (zip bytes mask)

-- a mask that is kept only where there is a 1
abbrev pub mask_kept : Option (Vec ℕ Global) → ℕ → List ℕ
mask_kept None n = replicate n 0
mask_kept (Some mask) n = mask.items
