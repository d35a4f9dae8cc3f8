-- Local arrays: one is filled with one value, and one is lent whole as a `&mut`. It says nothing of the crate. `fills` assumes `Logic`.
use mathlib.Core.Path.{refl}
use mathlib.Core.List.{List, [], ◌∷◌}
use Prim.Native.Nat.{ℕ}
use lib.ListN.{replicate}
use seplogic.Ra.Ura.{Ura}
use base.Fraction.{full_share}
use mir.Syntax.{Place, Body, Opd as Operand, ty_array, seq, assign, repeat}
use mir.Val.{Val}
use base.Fml.{GName, Fml, froom, fres}
use prog.Wp.{Env, Calls, Loops}
use types.Logic.{Logic}
use types.Kit.{Item, Go, Sq, Post, runs, ‵, ◌$◌, !, move, use1, use2}
use types.Part.{rep}
use types.Run.{Opd, Finds, init, assigns}
use types.SemTy.{Body as Holds}
use denote.RattleType.{RattleType}
use denote.Memory.{part_at, lone, mem}
use denote.Laws.{Is, shows, Lawful, Copy, Makes}
use denote.Steps.{owned, peeks}
use denote.Array.{Array, array_val, Array-repeat, Array-Lawful}
use borrow.Table.OneValue.{part_in}

-- what the borrow of a local array in the block b holds under γ while it is lent; and that the last list under γ is xs
abbrev pub Behind : RattleType → ℕ → ℕ → GName → Fml
Behind R n b γ = Holds (mem (Array R n)) b 0 γ

abbrev pub Last : (R : RattleType) → ℕ → GName → List R.Denot → Fml
Last R n γ xs = fres γ ((Array R n).coded.code xs)

-- a local array is filled with one value
module _ {M : Type 1} {𝓤 : Ura M} (𝓛 : Logic 𝓤) (R : RattleType) (lawful : Lawful 𝓛 R)
    (copy : Copy 𝓛 R) (makes : Makes 𝓛 R (Is R)) (x : R.Denot) (v : Val) (is : Is R x (v ∷ [])) (n l : ℕ) where
  open 𝓛 use {H}

  pub fills : {C : Calls 𝓤 H} {Λ : Loops 𝓤 H} {E : Env 𝓤 H} {q : Post 𝓤 H} {p : Place} {y : Operand} {rest : Body} {Γ : List (Item 𝓤)}
      → Opd Go 𝓛 (‵ ((Array R n).own_val (replicate n x) (array_val (replicate n v) ∷ [])) ∷ ‵ (froom (ty_array (lone R.mir) n) l 0) ∷ Γ)
      E y v
      → Finds Go 𝓛 (‵ ((Array R n).own_val (replicate n x) (array_val (replicate n v) ∷ [])) ∷ ‵ (froom (ty_array (lone R.mir) n) l 0) ∷ Γ)
      E p (ty_array (lone R.mir) n, l, 0)
      → Sq 𝓛 (‵ (part_at (Array R n) full_share (replicate n x) l 0) ∷ Γ) (runs C Λ E rest q)
      → Sq 𝓛 (‵ (froom (ty_array (lone R.mir) n) l 0) ∷ Γ) (runs C Λ E (seq (assign p (repeat y n)) rest) q)
  fills opd finds then =
      owned ! R (Is R) makes x (v ∷ []) is $
      use1 𝓛 (‵ ((Array R n).own_val (replicate n x) (array_val (replicate n v) ∷ []))) (Array-repeat 𝓛 R copy n x v) $
      peeks ! (Array R n) (Is (Array R n)) (shows 𝓛 (Array R n)) (replicate n x) (array_val (replicate n v) ∷ []) (λ all.
      assigns ! (rep ! n opd) finds (init ! 1 refl ((Array-Lawful 𝓛 R lawful n).typed (replicate n x) (array_val (replicate n v) ∷ [])
      all).0) $
      move ! (1 ∷ 0 ∷ []) $ use2 𝓛 (‵ (part_at (Array R n) full_share (replicate n x) l 0))
      (part_in 𝓛 (Array R n) refl full_share (replicate n x) l 0 (array_val (replicate n v))) $ then)
