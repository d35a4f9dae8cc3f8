-- Randomising in place, part by part; n octets of the sequence were used before.
use mathlib.Core.Path.{◌≡◌, sym, ap, ap₂, ◌∙◌}
use mathlib.Core.List.{List, ◌++◌, append_assoc, append-nil}
use Prim.Native.Nat.{ℕ, ◌+◌, ◌≤◌}
use native.Mathlib.Omega.{arith}
use lib.ListN.{length, take, drop, length-append, length-drop}
use lib.Seq.{take-length, drop-length, length-take-le, take_at, drop_at, drop-drop, take-add}
use borrow.Rule.Slice.PartMut.{put_mid}
use Rattle.randomiser.specs.Randomiser.{Generator, randomised}
use Rattle.randomiser.proofs.Randomising.{length_randomised, randomised_append}

module _ (g : Generator) (n : ℕ) (o out new : List ℕ) (at more : ℕ) (room : at + more ≤ length o)
    (done : out ≡ randomised g n (take at o) ++ drop at o) where
  front_length : length (randomised g n (take at o)) ≡ at
  front_length = length_randomised g n (take at o) ∙ length-take-le at o (omega arith)

  -- the part that comes next is as it was
  next_part : take more (drop at out) ≡ take more (drop at o)
  next_part = ap (take more) (ap (drop at) done ∙ drop_at (randomised g n (take at o)) (drop at o) at front_length)

  next_place : n + at ≡ n + length (take at o)
  next_place = ap (λ z. n + z) (sym (length-take-le at o (omega arith)))

  pub more_done : new ≡ randomised g (n + at) (take more (drop at out)) → put_mid at more out new
      ≡ randomised g n (take (at + more) o) ++ drop (at + more) o
  more_done e =
      let front : List ℕ = randomised g n (take at o) in
      ap₂ (λ x y. x ++ (new ++ drop more y)) (ap (take at) done ∙ take_at front (drop at o) at front_length)
      (ap (drop at) done ∙ drop_at front (drop at o) at front_length)
      ∙ ap (λ z. front ++ (new ++ z)) (drop-drop more at o)
      ∙ sym (append_assoc front new (drop (at + more) o))
      ∙ ap (λ z. z ++ drop (at + more) o) (
      ap (λ z. front ++ z) (e ∙ ap (randomised g (n + at)) next_part ∙ ap (λ z. randomised g z (take more (drop at o))) next_place)
      ∙ sym (randomised_append g n (take at o) (take more (drop at o))) ∙ ap (randomised g n) (sym (take-add at more o)))

-- what is done has the length that it had
pub out_length : (g : Generator) (n : ℕ) (o out : List ℕ) (at : ℕ) → at ≤ length o
    → out ≡ randomised g n (take at o) ++ drop at o → length out ≡ length o
out_length g n o out at room done =
    ap length done
    ∙ omega (
      arith,
      length-append (randomised g n (take at o)) (drop at o),
      length_randomised g n
          (take at o),
      length-take-le at o room,
      length-drop at o,
    )

-- all is done where nothing is left
pub all_done : (g : Generator) (n : ℕ) (o out : List ℕ) (at : ℕ) → at ≡ length o → out ≡ randomised g n (take at o) ++ drop at o
    → out ≡ randomised g n o
all_done g n o out at e done =
    done
    ∙ ap (λ z. randomised g n (take z o) ++ drop z o) e
    ∙ ap₂ (λ x y. randomised g n x ++ y) (take-length o) (drop-length o)
    ∙ append-nil (randomised g n o)
