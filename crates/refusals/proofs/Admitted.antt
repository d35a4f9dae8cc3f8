-- A code's record and its lengths, where a call is admitted or refused.
use mathlib.Core.Path.{◌≡◌, refl, sym, ap, ◌∙◌, subst}
use mathlib.Core.Bool.{Bool, true, false, not, ◌&&◌}
use mathlib.Core.List.{List}
use Prim.Native.Nat.{ℕ, ◌*◌, ◌≤◌, ◌<◌}
use native.Mathlib.Omega.{arith}
use lib.Dec.{T, eqb}
use Rattle.rules.specs.Codes.{code, bits, offered}
use Rattle.answers.specs.Calls.{refusal}
use Rattle.answers.proofs.Answers.{Right, refusal_as, refusal_right}
use Rattle.catalogue.specs.declared.offer.Offer.{Offer}
use Rattle.catalogue.specs.offer.Offers.{offer_of, Known}
use Rattle.layout.specs.declared.Shape.{Shape}
use Rattle.layout.specs.Lent.{Fit}
use Rattle.catalogue.proofs.offer.Offers.{offers, fixed, known, small}

-- a truth, as an equation; and the first of two
pub as_truth : {b : Bool} → b ≡ true → T b
as_truth e = subst T (sym e) tt

as_true : (b : Bool) → T b → b ≡ true
as_true true t = refl
as_true false t = absurd t

first : (a b : Bool) → (a && b) ≡ true → a ≡ true
first true b e = refl
first false b e = e

module _ (n : ℕ) {o : Offer} (is : o ≡ offer_of n) where
  word_is : offered n ≡ true → o.word ≡ (code n).octets_of_word
  word_is off = ap (λ z. z.word) is ∙ (fixed n off).word

  information_is : offered n ≡ true → o.information ≡ (code n).octets_of_information
  information_is off = ap (λ z. z.information) is ∙ (fixed n off).information

  -- the refusal that was worked out is the definition's
  pub encode_refusal : {k : ℕ} (input output : ℕ) → k ≡ refusal o.offered input o.information output o.word
      → k ≡ refusal (offered n) input (code n).octets_of_information output (code n).octets_of_word
  encode_refusal input output e = e ∙ refusal_as input output (ap (λ z. z.offered) is ∙ (offers n).all) information_is word_is

  pub check_refusal : {k : ℕ} (input : ℕ) → k ≡ refusal o.offered input o.word 0 0
      → k ≡ refusal (offered n) input (code n).octets_of_word 0 0
  check_refusal input e = e ∙ refusal_as input 0 {room = 0} {room' = 0} (ap (λ z. z.offered) is ∙ (offers n).all) word_is (λ f. refl)

  pub open_refusal : {k : ℕ} (input : ℕ) → k ≡ refusal o.opens input o.word 0 0
      → k ≡ refusal (offered n && not (eqb n 4)) input (code n).octets_of_word 0 0
  open_refusal input e = e ∙ refusal_as input 0 {room = 0} {room' = 0} (ap (λ z. z.opens) is ∙ (offers n).opens)
      (λ f. word_is (first (offered n) _ f)) (λ f. refl)

  pub correct_refusal : {k : ℕ} (input output : ℕ) → k ≡ refusal o.offered input o.word output o.word
      → k ≡ refusal (offered n) input (code n).octets_of_word output (code n).octets_of_word
  correct_refusal input output e = e ∙ refusal_as input output (ap (λ z. z.offered) is ∙ (offers n).all) word_is word_is

  pub step_refusal : {k : ℕ} (input output : ℕ) → k ≡ refusal o.steps input o.word output o.word
      → k ≡ refusal (offered n && not (eqb n 5)) input (code n).octets_of_word output (code n).octets_of_word
  step_refusal input output e = e
      ∙ refusal_as input output (ap (λ z. z.steps) is ∙ (offers n).steps) (λ f. word_is (first (offered n) _ f))
      (λ f. word_is (first (offered n) _ f))

  -- a code that a call offers is offered
  pub offered_by : o.offered ≡ true → offered n ≡ true
  offered_by f = sym (ap (λ z. z.offered) is ∙ (offers n).all) ∙ f

  pub opens_by : o.opens ≡ true → (offered n && not (eqb n 4)) ≡ true
  opens_by f = sym (ap (λ z. z.opens) is ∙ (offers n).opens) ∙ f

  pub steps_by : o.steps ≡ true → (offered n && not (eqb n 5)) ≡ true
  steps_by f = sym (ap (λ z. z.steps) is ∙ (offers n).steps) ∙ f

  pub opens_offered : o.opens ≡ true → offered n ≡ true
  opens_offered f = first (offered n) (not (eqb n 4)) (opens_by f)

  pub steps_offered : o.steps ≡ true → offered n ≡ true
  steps_offered f = first (offered n) (not (eqb n 5)) (steps_by f)

  -- what is known of a call that is taken: the code, and the lengths by its record
  pub record Taken (b : Bool) (input long output room : ℕ) : Type 0 where
    pub chosen : b ≡ true
    pub offers : offered n ≡ true
    pub known : Known o
    pub input_is : input ≡ long
    pub output-is : output ≡ room

  pub taken : (b : Bool) → (b ≡ true → offered n ≡ true) → (input long output room : ℕ) {k : ℕ} → k ≡ refusal b input long output room
      → k ≡ 0 → Taken b input long output room
  taken b all input long output room e z =
      let r : Right b input long output room = refusal_right b input long output room (sym e ∙ z) in
      let t : b ≡ true = as_true b r.offers in
      record { chosen = t; offers = all t; known = known n (all t) is; input_is = r.long_is; output-is = r.room_is }

  -- lengths by the record, as the code's
  pub word_long : {k : ℕ} → offered n ≡ true → k ≡ o.word → k ≡ (code n).octets_of_word
  word_long off e = e ∙ word_is off

  pub information_long : {k : ℕ} → offered n ≡ true → k ≡ o.information → k ≡ (code n).octets_of_information
  information_long off e = e ∙ information_is off

  pub unsent_is : offered n ≡ true → o.unsent ≡ (code n).unsent
  unsent_is off = ap (λ z. z.unsent) is ∙ (fixed n off).unsent

  pub bits_are : offered n ≡ true → o.bits ≡ bits (code n)
  bits_are off = ap (λ z. z.bits) is ∙ (fixed n off).bits_are

-- what the engine asks of a shape that is the record's
pub shaped : {o : Offer} {sh : Shape} → Known o → sh ≡ o.shape → (1 ≤ sh.blocks) × (o.unsent < sh.size)
shaped {o} k e = (subst (λ z. 1 ≤ z.blocks) (sym e) (small k).blocks, subst (λ z. o.unsent < z.size) (sym e) (small k).within)

-- and of one that fits a table
pub fitting : {h : List ℕ} {sh : Shape} → Fit h sh → (1 ≤ sh.words) × (sh.words ≤ 8) × (sh.rows ≤ 4) × (sh.size ≤ 64 * sh.words)
fitting f = (omega (arith, f.some, f.held), f.words, f.rows, f.held)
