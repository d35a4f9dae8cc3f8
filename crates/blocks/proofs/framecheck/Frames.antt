-- Frames: a check put behind octets is sound, and a sound frame is its front with the check put behind.
use mathlib.Core.Path.{◌≡◌, sym, ap, ap₂, ◌∙◌, subst}
use mathlib.Core.Bool.{true}
use mathlib.Core.List.{List, [], ◌∷◌, ◌++◌}
use Prim.Native.Nat.{ℕ, suc, ◌+◌, ◌*◌, ◌/◌, ◌%◌, ◌<◌}
use native.Mathlib.Omega.{arith}
use native.Mathlib.Numerals.{add-one}
use lib.Dec.{T, eqb→eq}
use lib.ListN.{length, get_or, take, drop, take-append-drop, drop_of_length-le}
use lib.Seq.{take_at, drop-cons, get_or_at, get_or-append-add}
use borrow.Author.Tests.{eq-eqb}
use Rattle.bits.proofs.Octets.{Octets, number_lt}
use Rattle.blocks.specs.framecheck.FrameCheck.{frame_check, framed, sound}

pub check_lt : (octets : List ℕ) → frame_check octets < 65536
unfolding frame_check
check_lt octets = number_lt 16 _

pub sound_framed : (n : ℕ) (octets : List ℕ) → length octets ≡ n → sound n (framed octets) ≡ true
unfolding sound
sound_framed n octets e =
    eq-eqb (frame_check (take n (framed octets))) (256 * get_or (framed octets) n 0 + get_or (framed octets) (n + 1) 0)
    (ap frame_check (take_at octets last n e)
    ∙ parts
    ∙ sym (ap₂ (λ a b. 256 * a + b)
    (get_or_at octets (c / 256) (c % 256 ∷ []) 0 n e)
    (ap (λ z. get_or (framed octets) (z + 1) 0) (sym e) ∙ get_or-append-add octets last 1 0)))
  where
    c : ℕ
    c = frame_check octets

    last : List ℕ
    last = c / 256 ∷ c % 256 ∷ []

    parts : c ≡ 256 * (c / 256) + c % 256
    parts = omega arith

pub framed_sound : (n : ℕ) (frame : List ℕ) → Octets frame → length frame ≡ n + 2 → sound n frame ≡ true → framed (take n frame) ≡ frame
unfolding sound
framed_sound n frame all e s =
    ap (λ l. take n frame ++ l) (ap₂ (λ a b. a ∷ b ∷ []) first second ∙ sym behind)
    ∙ take-append-drop n frame
  where
    a : ℕ
    a = get_or frame n 0

    b : ℕ
    b = get_or frame (n + 1) 0

    c : frame_check (take n frame) ≡ 256 * a + b
    c = eqb→eq (frame_check (take n frame)) (256 * a + b) (subst T (sym s) tt)

    small : b < 256
    small = all (n + 1)

    first : frame_check (take n frame) / 256 ≡ a
    first = omega (arith, c, small)

    second : frame_check (take n frame) % 256 ≡ b
    second = omega (arith, c, small)

    behind : drop n frame ≡ a ∷ b ∷ []
    behind =
        drop-cons frame n 0 (omega arith)
        ∙ ap (λ l. a ∷ l)
        (drop-cons frame (suc n) 0 (omega arith)
        ∙ ap₂ (λ x l. x ∷ l) (ap (λ z. get_or frame z 0) (sym (add-one n))) (drop_of_length-le frame {i = suc (suc n)} (omega arith)))
