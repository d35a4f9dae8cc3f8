-- Import after export, export after import, and what the frame check of a block notices.
use mathlib.Core.Path.{◌≡◌, refl, sym, ap, ap₂, ◌∙◌, subst}
use mathlib.Core.Bool.{Bool, true, false, ◌&&◌}
use mathlib.Core.List.{List, [], ◌∷◌, ◌++◌, append-nil, append_assoc}
use mathlib.Core.Logic.{⊎_elim}
use Prim.Native.Nat.{ℕ, zero, suc, ◌+◌, ◌-◌, ◌*◌, ◌/◌, ◌%◌, ◌≤◌, ◌<◌, zero-le}
use native.Mathlib.Nat.{not-suc-le-zero, suc-add, add-suc, add-zero, zero-add}
use native.Mathlib.Omega.{arith}
use native.Mathlib.Decide.{ℕ_discrete}
use lib.Dec.{T, eqb, eqb→eq, lit<}
use lib.ListN.{length, get_or, take, drop, replicate, length-replicate, length-take, length-drop, take-append-drop}
use lib.ListN.{drop_of_length-le, get_or-eq_default}
use lib.Seq.{take_at, drop_at, take_all, drop-drop, length-take-le, take-add, get_or-take, get_or-drop}
use borrow.Author.Tests.{eq-eqb, ne_eqb, le-leb, le-ltb}
use Rattle.bits.specs.Bits.{bit, flipped}
use Rattle.bits.proofs.Orders.{le-or-lt}
use Rattle.bits.proofs.Octets.{Octets}
use Rattle.bits.proofs.Sums.{and_l, and_r}
use Rattle.blocks.specs.framecheck.FrameCheck.{frame_check, framed, sound}
use Rattle.blocks.proofs.framecheck.Frames.{sound_framed, framed_sound}
use Rattle.blocks.proofs.framecheck.Noticed.{burst_noticed, one_noticed, two_noticed}
use Rattle.blocks.specs.Blocks.{two, four, front, block, exported, blocks_for, Exported, export_answer, number_in, used_in, data_in}
use Rattle.blocks.specs.Blocks.{count_right_of, clear, filling_in, fault, Fault, first_fault_of, imported, whole_blocks, Imported}
use Rattle.blocks.specs.Blocks.{import_answer}
use Rattle.blocks.proofs.Writing.{front_long, block_long, exported_long}
use Rattle.blocks.proofs.Reading.{Sound, sound_block, fault_none, fault_check, count-le, count_full, count_some, block_at}
use Rattle.blocks.proofs.Reading.{block_sound, room_is}
use Rattle.blocks.proofs.Answering.{export_done, whole_is, import_whole, import_fault, import_room_lem, import_done}

-- ---- a block that is written is read back

clear_zeros : (n : ℕ) → clear (replicate n 0) ≡ true
unfolding clear
clear_zeros zero = refl
clear_zeros (suc n) = clear_zeros n

written_check : (place : ℕ) (used : List ℕ) → length used ≤ 504 → sound 510 (block place used) ≡ true
unfolding block
written_check place used h = sound_framed 510 (front place used) (front_long place used h)

module _ (place : ℕ) (used : List ℕ) (small : place < 128) (few : length used ≤ 504) where
  abbrev zs : List ℕ
  zs = replicate (504 - length used) 0

  abbrev tail : List ℕ
  tail = used ++ zs

  -- what stands behind the six octets of the head
  behind : List ℕ
  behind = frame_check (front place used) / 256 ∷ frame_check (front place used) % 256 ∷ []

  read_used : used_in (block place used) ≡ length used
  unfolding block
  read_used = omega arith

  read_number : number_in (block place used) ≡ place
  unfolding block
  read_number = omega arith

  after_head : drop 6 (block place used) ≡ used ++ (zs ++ behind)
  unfolding block behind
  after_head = append_assoc used zs behind

  pub read_data : data_in (block place used) ≡ used
  read_data = ap₂ take read_used after_head ∙ take_at used (zs ++ behind) (length used) refl

  read_filling : filling_in (block place used) ≡ zs
  read_filling =
      ap (λ u. take (504 - u) (drop (6 + u) (block place used))) read_used
      ∙ ap (take (504 - length used)) (sym (drop-drop (length used) 6 (block place used)) ∙ ap (drop (length used)) after_head
      ∙ drop_at used (zs ++ behind) (length used) refl)
      ∙ take_at zs behind (504 - length used) (length-replicate (504 - length used) 0)

  pub written_sound : (last : Bool) → count_right_of last (length used) ≡ true → fault place last (block place used) ≡ 0
  written_sound last c =
      fault_none place last (block place used) checked
      (eq-eqb (number_in (block place used)) place read_number)
      (ap (count_right_of last) read_used ∙ c)
      (ap clear read_filling ∙ clear_zeros (504 - length used))
    where
      checked : sound 510 (block place used) ≡ true
      checked = written_check place used few

-- ---- import after export

abbrev none : Fault
none = record { number = 0; block = 0 }

on_sound : (n place : ℕ) (b rest : List ℕ) → length b ≡ 512 → fault place (eqb n 0) b ≡ 0
    → first_fault_of (suc n) place (b ++ rest) ≡ first_fault_of n (suc place) rest
unfolding first_fault_of
on_sound n place b rest e f =
    let h : eqb (fault place (eqb n 0) (take 512 (b ++ rest))) 0 ≡ true = ap (λ z. eqb (fault place (eqb n 0) z) 0) (take_at b rest 512 e)
    ∙ eq-eqb _ 0 f in
    (simp h) ∙ ap (first_fault_of n (suc place)) (drop_at b rest 512 e)

on_data : (n : ℕ) (b rest : List ℕ) → length b ≡ 512 → imported (suc n) (b ++ rest) ≡ data_in b ++ imported n rest
unfolding imported
on_data n b rest e = ap₂ (λ x y. data_in x ++ imported n y) (take_at b rest 512 e) (drop_at b rest 512 e)

count_written : (n : ℕ) (octets : List ℕ) → length octets ≤ 504 * suc n → 504 * suc n < length octets + 504
    → count_right_of (eqb n 0) (length (take 504 octets)) ≡ true
count_written zero octets h g =
    ap₂ ◌&&◌ (le-leb 1 (length (take 504 octets)) (omega (arith, long))) (le-leb (length (take 504 octets)) 504 (omega (arith, long)))
  where
    long : length (take 504 octets) ≡ length octets
    long = ap length (take_all 504 octets (omega arith))
count_written (suc n) octets h g =
    ap (λ z. count_right_of z (length (take 504 octets))) (ne_eqb (suc n) 0 (λ e. omega arith))
    ∙ eq-eqb (length (take 504 octets)) 504 (length-take-le 504 octets (omega arith))

pub read_back : (n place : ℕ) (octets : List ℕ) → place + n ≤ 128 → length octets ≤ 504 * n → 504 * n < length octets + 504
    → (first_fault_of n place (exported n place octets) ≡ none) × (imported n (exported n place octets) ≡ octets)
unfolding exported first_fault_of imported
read_back zero place [] p h g = (refl, refl)
read_back zero place (o ∷ octets) p h g = absurd (omega arith)
read_back (suc n) place octets p h g = go (read_back n (suc place) (drop 504 octets) (omega arith)
    (omega (arith, length-drop 504 octets)) more)
  where
    more : 504 * n < length (drop 504 octets) + 504
    more = omega (arith, length-drop 504 octets)

    B : List ℕ
    B = block place (take 504 octets)

    few : length (take 504 octets) ≤ 504
    few = omega (arith, length-take 504 octets)

    long : length B ≡ 512
    long = block_long place (take 504 octets) few

    sound_here : fault place (eqb n 0) B ≡ 0
    sound_here = written_sound place (take 504 octets) (omega arith) few (eqb n 0) (count_written n octets h g)

    rest : List ℕ
    rest = exported n (suc place) (drop 504 octets)

    go : (first_fault_of n (suc place) rest ≡ none) × (imported n rest ≡ drop 504 octets)
        → (first_fault_of (suc n) place (B ++ rest) ≡ none) × (imported (suc n) (B ++ rest) ≡ octets)
    go ih = (
      on_sound n place B rest long sound_here ∙ ih.0,
      on_data n B rest long ∙ ap₂ (λ x y. x ++ y) (read_data place (take 504 octets) (omega arith) few) ih.1
          ∙ take-append-drop 504 octets,
    )

-- import after export gives the octets back
pub import_after_export : (octets out room : List ℕ) → length octets ≤ 64512 → length out ≡ 512 * blocks_for (length octets)
    → length room ≡ length octets
    → import_answer (export_answer octets out).out room ≡ record { number = 0; block = 0; out = octets }
import_after_export octets out room few long fits =
    ap (λ (x : Exported). import_answer x.out room) (export_done octets out (le-ltb 64512 (length octets) few) (eq-eqb _ _ long))
    ∙ import_done X room whole (eq-eqb _ 0 (ap (λ z. (first_fault_of z 0 X).number) many ∙ ap (λ (f : Fault). f.number) back.0))
    (eq-eqb _ _ (fits ∙ sym (ap length imported_is)))
    ∙ ap (λ l. record { number = 0; block = 0; out = l }) imported_is
  where
    n : ℕ
    n = blocks_for (length octets)

    X : List ℕ
    X = exported n 0 octets

    X-long : length X ≡ 512 * n
    X-long = exported_long n 0 octets

    many : length X / 512 ≡ n
    many = omega (arith, X-long)

    back : (first_fault_of n 0 X ≡ none) × (imported n X ≡ octets)
    back = read_back n 0 octets (omega arith) (omega arith) (omega arith)

    imported_is : imported (length X / 512) X ≡ octets
    imported_is = ap (λ z. imported z X) many ∙ back.1

    whole : whole_blocks (length X) ≡ true
    whole = ap₂ ◌&&◌ (eq-eqb (length X % 512) 0 (omega (arith, X-long))) (le-leb (length X / 512) 128 (omega (arith, X-long)))

-- ---- export after import

clear_is : (l : List ℕ) → clear l ≡ true → l ≡ replicate (length l) 0
unfolding clear
clear_is [] e = refl
clear_is (o ∷ l) e =
    ap₂ (λ x y. x ∷ y) (eqb→eq o 0 (and_l (eqb o 0) (clear l) (subst T (sym e) tt)))
    (clear_is l (true_of (clear l) (and_r (eqb o 0) (clear l) (subst T (sym e) tt))))
  where
    true_of : (b : Bool) → T b → b ≡ true
    true_of true t = refl
    true_of false t = absurd t

six : (l : List ℕ) → 6 ≤ length l → take 6 l ≡ get_or l 0 0 ∷ get_or l 1 0 ∷ get_or l 2 0 ∷ get_or l 3 0 ∷ get_or l 4 0 ∷ get_or l 5 0 ∷ []
six [] h = absurd (omega arith)
six (a ∷ []) h = absurd (omega arith)
six (a ∷ b ∷ []) h = absurd (omega arith)
six (a ∷ b ∷ c ∷ []) h = absurd (omega arith)
six (a ∷ b ∷ c ∷ d ∷ []) h = absurd (omega arith)
six (a ∷ b ∷ c ∷ d ∷ e ∷ []) h = absurd (omega arith)
six (a ∷ b ∷ c ∷ d ∷ e ∷ f ∷ l) h = refl

four_is : (a b c d v : ℕ) → a < 256 → b < 256 → c < 256 → d < 256 → 16777216 * a + 65536 * b + 256 * c + d ≡ v → four v ≡ a ∷ b ∷ c ∷ d ∷ []
four_is a b c d v ha hb hc hd e = ap (λ x. x ∷ rest) first ∙ ap (λ x. a ∷ x ∷ v / 256 % 256 ∷ v % 256 ∷ []) second
    ∙ ap₂ (λ x y. a ∷ b ∷ x ∷ y ∷ []) third fourth
  where
    rest : List ℕ
    rest = v / 65536 % 256 ∷ v / 256 % 256 ∷ v % 256 ∷ []

    first : v / 16777216 % 256 ≡ a
    first = omega arith

    second : v / 65536 % 256 ≡ b
    second = omega arith

    third : v / 256 % 256 ≡ c
    third = omega arith

    fourth : v % 256 ≡ d
    fourth = omega arith

two_is : (a b v : ℕ) → a < 256 → b < 256 → v ≡ 256 * a + b → two v ≡ a ∷ b ∷ []
two_is a b v ha hb e = ap₂ (λ x y. x ∷ y ∷ []) first second
  where
    first : v / 256 % 256 ≡ a
    first = omega arith

    second : v % 256 ≡ b
    second = omega arith

-- a sound block is the block that is written of what it holds
pub written_again : (place : ℕ) (last : Bool) (b : List ℕ) → Octets b → length b ≡ 512 → Sound place last b → block place (data_in b) ≡ b
unfolding block
written_again place last b all long s = ap framed fronts ∙ framed_sound 510 b all long s.check
  where
    u : ℕ
    u = used_in b

    few : u ≤ 504
    few = count-le last (used_in b) s.count

    held : length (data_in b) ≡ u
    held = length-take-le (used_in b) (drop 6 b) (omega (arith, length-drop 6 b, few))

    filling : filling_in b ≡ replicate (504 - u) 0
    filling = clear_is (filling_in b) s.filling ∙ ap (λ n. replicate n 0)
        (length-take-le (504 - used_in b) (drop (6 + used_in b) b) (omega (arith, length-drop (6 + used_in b) b, few)))

    whole : u + (504 - u) ≡ 504
    whole = omega (arith, few)

    behind : take 504 (drop 6 b) ≡ data_in b ++ replicate (504 - u) 0
    behind =
        ap (λ n. take n (drop 6 b)) (sym whole) ∙ take-add u (504 - u) (drop 6 b)
        ∙ ap (λ l. data_in b ++ take (504 - u) l) (drop-drop u 6 b)
        ∙ ap (λ l. data_in b ++ l) filling

    fronts : front place (data_in b) ≡ take 510 b
    fronts =
        ap₂ (λ x y. x ++ (two (length (data_in b)) ++ (data_in b ++ replicate (504 - y) 0)))
        (four_is (get_or b 0 0) (get_or b 1 0) (get_or b 2 0) (get_or b 3 0) place (all 0) (all 1) (all 2) (all 3)
        (eqb→eq (number_in b) place (subst T (sym s.number) tt)))
        held
        ∙ ap₂ (λ x y. get_or b 0 0 ∷ get_or b 1 0 ∷ get_or b 2 0 ∷ get_or b 3 0 ∷ (x ++ y))
        (two_is (get_or b 4 0) (get_or b 5 0) (length (data_in b)) (all 4) (all 5) held) (sym behind)
        ∙ ap (λ x. x ++ take 504 (drop 6 b)) (sym (six b (omega arith)))
        ∙ sym (take-add 6 504 b)

none_of : (n place : ℕ) (l : List ℕ) → (first_fault_of (suc n) place l).number ≡ 0
    → (fault place (eqb n 0) (take 512 l) ≡ 0) × ((first_fault_of n (suc place) (drop 512 l)).number ≡ 0)
unfolding first_fault_of
none_of n place l e = go (ℕ_discrete (fault place (eqb n 0) (take 512 l)) 0)
  where
    f : ℕ
    f = fault place (eqb n 0) (take 512 l)

    go : Dec (f ≡ 0) → (f ≡ 0) × ((first_fault_of n (suc place) (drop 512 l)).number ≡ 0)
    go (yes z) =
        let q : first_fault_of (suc n) place l ≡ first_fault_of n (suc place) (drop 512 l) = simp (eq-eqb f 0 z) in
        (z, ap (λ (r : Fault). r.number) (sym q) ∙ e)
    go (no d) =
        let q : first_fault_of (suc n) place l ≡ record { number = f; block = place } = simp (ne_eqb f 0 d) in
        absurd (d (ap (λ (r : Fault). r.number) (sym q) ∙ e))

-- the octets of the first block, and those of the others
parted : (n : ℕ) (d rest : List ℕ) → length d ≤ 504 → (eqb n 0 ≡ false → length d ≡ 504) → (n ≡ 0 → rest ≡ [])
    → (take 504 (d ++ rest) ≡ d) × (drop 504 (d ++ rest) ≡ rest)
parted zero d rest few full end =
    let e : d ++ rest ≡ d = ap (λ l. d ++ l) (end refl) ∙ append-nil d in
    (ap (take 504) e ∙ take_all 504 d few, ap (drop 504) e ∙ drop_of_length-le d few ∙ sym (end refl))
parted (suc n) d rest few full end =
    let e : length d ≡ 504 = full (ne_eqb (suc n) 0 (λ q. omega arith)) in
    (take_at d rest 504 e, drop_at d rest 504 e)

Octets-take : (n : ℕ) (l : List ℕ) → Octets l → Octets (take n l)
Octets-take n l all i = ⊎_elim (λ (h : n ≤ i). small h) (λ (h : i < n). subst (λ z. z < 256) (sym (get_or-take n l i 0 h)) (all i))
    (le-or-lt n i)
  where
    small : n ≤ i → get_or (take n l) i 0 < 256
    small h = subst (λ z. z < 256) (sym (get_or-eq_default (take n l) 0 {n = i} (omega (arith, length-take n l)))) (lit< tt)

Octets-drop : (n : ℕ) (l : List ℕ) → Octets l → Octets (drop n l)
Octets-drop n l all i = subst (λ z. z < 256) (sym (get_or-drop n l i 0)) (all (n + i))

pub export_back : (n place : ℕ) (l : List ℕ) → Octets l → length l ≡ 512 * n → (first_fault_of n place l).number ≡ 0
    → exported n place (imported n l) ≡ l
unfolding exported imported
export_back zero place [] all long e = refl
export_back zero place (o ∷ l) all long e = absurd (omega arith)
export_back (suc n) place l all long e =
    go (none_of n place l e) (λ q. export_back n (suc place) (drop 512 l) (Octets-drop 512 l all) (omega (arith, length-drop 512 l)) q)
  where
    b : List ℕ
    b = take 512 l

    b_long : length b ≡ 512
    b_long = length-take-le 512 l (omega arith)

    go : (fault place (eqb n 0) b ≡ 0) × ((first_fault_of n (suc place) (drop 512 l)).number ≡ 0)
        → ((first_fault_of n (suc place) (drop 512 l)).number ≡ 0 → exported n (suc place) (imported n (drop 512 l)) ≡ drop 512 l)
        → exported (suc n) place (data_in b ++ imported n (drop 512 l)) ≡ l
    go f ih =
        ap₂ (λ x y. block place x ++ exported n (suc place) y) cut.0 cut.1
        ∙ ap₂ (λ x y. x ++ y) (written_again place (eqb n 0) b (Octets-take 512 l all) b_long s) (ih f.1)
        ∙ take-append-drop 512 l
      where
        s : Sound place (eqb n 0) b
        s = sound_block place (eqb n 0) b f.0

        few : used_in b ≤ 504
        few = count-le (eqb n 0) (used_in b) s.count

        held : length (data_in b) ≡ used_in b
        held = length-take-le (used_in b) (drop 6 b) (omega (arith, length-drop 6 b, b_long, few))

        full : eqb n 0 ≡ false → length (data_in b) ≡ 504
        full q = held ∙ count_full (used_in b) (subst (λ z. count_right_of z (used_in b) ≡ true) q s.count)

        end : n ≡ 0 → imported n (drop 512 l) ≡ []
        end q = ap (λ z. imported z (drop 512 l)) q

        cut : (take 504 (data_in b ++ imported n (drop 512 l)) ≡ data_in b)
            × (drop 504 (data_in b ++ imported n (drop 512 l)) ≡ imported n (drop 512 l))
        cut = parted n (data_in b) (imported n (drop 512 l)) (omega (arith, held, few)) full end

-- as many blocks as there were
blocks_back : (n : ℕ) (l : List ℕ) → length l ≡ 512 * n → (first_fault_of n 0 l).number ≡ 0
    → (blocks_for (length (imported n l)) ≡ n) × (length (imported n l) ≤ 504 * n)
unfolding imported
blocks_back zero l long e = (refl, zero-le)
blocks_back (suc m) l long e = (omega (arith, room, few, some), omega (arith, room, few))
  where
    s : Sound m (eqb (suc m - suc m) 0) (block_at m l)
    s = block_sound (suc m) l long e m (omega arith)

    room : 504 * m + used_in (block_at m l) ≡ length (imported (suc m) l)
    room = room_is (suc m) l long e m refl

    few : used_in (block_at m l) ≤ 504
    few = count-le (eqb (suc m - suc m) 0) (used_in (block_at m l)) s.count

    some : 1 ≤ used_in (block_at m l)
    some = count_some (eqb (suc m - suc m) 0) (used_in (block_at m l)) s.count

-- what an import that was taken has found
taken_import : (l out : List ℕ) → (import_answer l out).number ≡ 0
    → (whole_blocks (length l) ≡ true) × ((first_fault_of (length l / 512) 0 l).number ≡ 0)
    × ((import_answer l out).out ≡ imported (length l / 512) l)
taken_import l out e = go (whole_blocks (length l)) (ℕ_discrete (first_fault_of n 0 l).number 0)
    (ℕ_discrete (length out) (length (imported n l))) refl
  where
    n : ℕ
    n = length l / 512

    go : (w : Bool) → Dec ((first_fault_of n 0 l).number ≡ 0) → Dec (length out ≡ length (imported n l)) → whole_blocks (length l) ≡ w
        → (whole_blocks (length l) ≡ true) × ((first_fault_of n 0 l).number ≡ 0) × ((import_answer l out).out ≡ imported n l)
    go false f r w = absurd (omega (arith, e, ap (λ (x : Imported). x.number) (import_whole l out w)))
    go true (no f) r w = absurd (f (sym (ap (λ (x : Imported). x.number) (import_fault l out w (ne_eqb _ 0 f))) ∙ e))
    go true (yes f) (no r) w = absurd (omega (
      arith,
      e,
      ap (λ (x : Imported). x.number)
          (import_room_lem l out w (eq-eqb _ 0 f) (ne_eqb _ _ r)),
    ))
    go true (yes f) (yes r) w = (w, f, ap (λ (x : Imported). x.out) (import_done l out w (eq-eqb _ 0 f) (eq-eqb _ _ r)))

-- export after an import that was taken gives the blocks back
pub export_after_import : (l out room : List ℕ) → Octets l → (import_answer l out).number ≡ 0 → length room ≡ length l
    → export_answer (import_answer l out).out room ≡ record { number = 0; out = l }
export_after_import l out room all e fits =
    ap (λ x. export_answer x room) t.2
    ∙ export_done (imported n l) room (le-ltb 64512 (length (imported n l)) (omega (arith, back.1, i.1)))
    (eq-eqb _ _ (fits ∙ i.0 ∙ ap (λ z. 512 * z) (sym back.0)))
    ∙ ap (λ x. record { number = 0; out = x }) (ap (λ z. exported z 0 (imported n l)) back.0 ∙ export_back n 0 l all i.0 t.1)
  where
    n : ℕ
    n = length l / 512

    t : (whole_blocks (length l) ≡ true) × ((first_fault_of n 0 l).number ≡ 0) × ((import_answer l out).out ≡ imported n l)
    t = taken_import l out e

    i : (length l ≡ 512 * n) × (n ≤ 128)
    i = whole_is (length l) t.0

    back : (blocks_for (length (imported n l)) ≡ n) × (length (imported n l) ≤ 504 * n)
    back = blocks_back n l i.0 t.1

-- ---- what is noticed

first-at : (n place k f : ℕ) (l : List ℕ) → k < n → ((j : ℕ) → j < k → fault (place + j) (eqb (n - suc j) 0) (block_at j l) ≡ 0)
    → fault (place + k) (eqb (n - suc k) 0) (block_at k l) ≡ suc f → first_fault_of n place l ≡ record { number = suc f; block = place + k }
unfolding first_fault_of
first-at zero place k f l h before here = absurd (not-suc-le-zero h)
first-at (suc n) place zero f l h before here =
    let g : fault place (eqb n 0) (take 512 l) ≡ suc f = ap₂ (λ a x. fault a x (take 512 l)) (sym (add-zero place))
    (ap (λ z. eqb z 0) only) ∙ here in
    let d : eqb (suc f) 0 ≡ false = ne_eqb (suc f) 0 (λ e. omega arith) in
    (simp (g, d)) ∙ ap (λ z. record { number = suc f; block = z }) (sym (add-zero place))
  where
    only : n ≡ suc n - suc 0
    only = omega arith
first-at (suc n) place (suc k) f l h before here =
    let g : fault place (eqb n 0) (take 512 l) ≡ 0 = ap₂ (λ a x. fault a x (take 512 l)) (sym (add-zero place)) (ap (λ z. eqb z 0) only)
    ∙ before 0 (omega arith) in
    (simp g)
    ∙ first-at n (suc place) k f (drop 512 l) (omega arith) (λ j q. later j ∙ before (suc j) (omega arith)) (later k ∙ here)
    ∙ ap (λ z. record { number = suc f; block = z }) (suc-add place k ∙ sym (add-suc place k))
  where
    only : n ≡ suc n - suc 0
    only = omega arith

    later : (j : ℕ) → fault (suc place + j) (eqb (n - suc j) 0) (block_at j (drop 512 l)) ≡ fault (place + suc j)
        (eqb (suc n - suc (suc j)) 0) (block_at (suc j) l)
    later j =
        ap₂ (λ a x. fault a x (block_at j (drop 512 l))) (suc-add place j ∙ sym (add-suc place j)) (ap (λ z. eqb z 0) less)
        ∙ ap (λ z. fault (place + suc j) (eqb (suc n - suc (suc j)) 0) (take 512 z)) (drop-drop (512 * j) 512 l ∙ ap (λ z. drop z l) more)
      where
        less : n - suc j ≡ suc n - suc (suc j)
        less = omega arith

        more : 512 + 512 * j ≡ 512 * suc j
        more = omega arith

-- Blocks of which the one at place k is spoiled, and those before it are without a fault: b is that block as it was, with its check right.
module _ (l out b : List ℕ) (k : ℕ) (all : Octets l) (whole : whole_blocks (length l) ≡ true) (h : k < length l / 512)
    (before : (j : ℕ) → j < k → fault j (eqb (length l / 512 - suc j) 0) (block_at j l) ≡ 0)
    (octets : Octets b) (long : length b ≡ 512) (check : sound 510 b ≡ true) where
  abbrev n : ℕ
  n = length l / 512

  spoiled_long : length (block_at k l) ≡ 512
  spoiled_long = length-take-le 512 (drop (512 * k) l) (omega (arith, length-drop (512 * k) l, (whole_is (length l) whole).0))

  spoiled_octets : Octets (block_at k l)
  spoiled_octets = Octets-take 512 (drop (512 * k) l) (Octets-drop (512 * k) l all)

  refused : sound 510 (block_at k l) ≡ false → import_answer l out ≡ record { number = 21; block = k; out = out }
  refused s =
      import_fault l out whole (ap (λ (f : Fault). eqb f.number 0) found)
      ∙ ap (λ (f : Fault). record { number = f.number; block = f.block; out = out }) found
    where
      found : first_fault_of n 0 l ≡ record { number = 21; block = k }
      found =
          first-at n 0 k 20 l h (λ j q. ap (λ z. fault z (eqb (n - suc j) 0) (block_at j l)) (zero-add j) ∙ before j q)
          (fault_check (0 + k) (eqb (n - suc k) 0) (block_at k l) s)
          ∙ ap (λ z. record { number = 21; block = z }) (zero-add k)

  -- one wrong bit
  pub one_refused : (i : ℕ) → i < 4096 → bit (block_at k l) ≡ flipped (bit b) i
      → import_answer l out ≡ record { number = 21; block = k; out = out }
  one_refused i q e = refused (one_noticed 510 b (block_at k l) octets spoiled_octets long spoiled_long check i q e)

  -- any two wrong bits
  pub two_refused : (i j : ℕ) → i < j → j < 4096 → bit (block_at k l) ≡ flipped (flipped (bit b) i) j
      → import_answer l out ≡ record { number = 21; block = k; out = out }
  two_refused i j q r e = refused (two_noticed 510 b (block_at k l) octets spoiled_octets long spoiled_long check (omega arith) i j q r e)

  -- a burst: nothing differs before place a nor from place a + 16 on, and the bit at i does
  pub burst_refused : (a i : ℕ) → ((j : ℕ) → j < a → bit (block_at k l) j ≡ bit b j)
      → ((j : ℕ) → a + 16 ≤ j → bit (block_at k l) j ≡ bit b j)
      → i < 4096 → (bit (block_at k l) i ≡ bit b i → ⊥) → import_answer l out ≡ record { number = 21; block = k; out = out }
  burst_refused a i near far q differs = refused (burst_noticed 510 b
      (block_at k l) octets spoiled_octets long spoiled_long check a i near far q differs)
