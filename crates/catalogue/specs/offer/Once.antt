-- No two code numbers fix the same record: that one does can be known in one way alone.
use mathlib.Core.Path.{◌≡◌, refl, sym, ap, ◌∙◌, subst}
use mathlib.Core.HLevel.{Σ_prop_path, ×_prop}
use mathlib.Core.Bool.{true}
use Prim.Native.Nat.{ℕ}
use lib.Dec.{T, eqb}
use Rattle.std.specs.Coded.{Coded, Coded-set, coded_bool}
use Rattle.bits.specs.Bits.{when◌then◌else◌}
use Rattle.rules.specs.Codes.{offered}
use Rattle.rules.proofs.Numbers.{five}
use Rattle.catalogue.specs.declared.offer.Offer.{Offer}
use Rattle.catalogue.specs.offer.Offers.{offer_of, Known}

-- the number, by the length of a word
number_by : ℕ → ℕ
number_by word =
    when eqb word 16 then 1 else when eqb word 32 then 2 else when eqb word 64 then 3 else when eqb word 1022 then 4 else 5

numbered : (n : ℕ) → T (offered n) → number_by (offer_of n).word ≡ n
unfolding number_by
numbered = five (λ n. number_by (offer_of n).word ≡ n) refl refl refl refl refl

number_is : {o : Offer} (k : Known o) → number_by o.word ≡ k.number
number_is k = ap (λ o. number_by o.word) k.is ∙ numbered k.number (subst T (sym k.offers) tt)

fixes : Offer → ℕ → Type 0
fixes o n = (offered n ≡ true) × (o ≡ offer_of n)

made : (o : Offer) → (n : ℕ) × fixes o n → Known o
unfolding fixes
made o (n, (offers, is)) = record { number = n; offers = offers; is = is }

pub known_once : Coded Offer → (o : Offer) → IsProp (Known o)
unfolding fixes made
known_once coded o j k =
    let u : (n : ℕ) × fixes o n = (j.number, (j.offers, j.is)) in
    let v : (n : ℕ) × fixes o n = (k.number, (k.offers, k.is)) in
    let e : u ≡ v = Σ_prop_path (λ n. ×_prop (Coded-set coded_bool (offered n) true) (Coded-set coded o (offer_of n)))
    (sym (number_is j) ∙ number_is k) in
    ap (made o) e
