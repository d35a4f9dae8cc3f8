-- The calls' answers by cases: what an answer is for a call that is refused, and for one that is taken.
use mathlib.Core.Path.{◌≡◌, refl, sym, ap, ap₂, ◌∙◌, subst}
use mathlib.Core.Bool.{Bool, true, false, not, ◌&&◌}
use mathlib.Core.List.{List, []}
use Prim.Native.Nat.{ℕ, suc}
use native.Mathlib.Omega.{arith}
use lib.Dec.{T, eqb}
use lib.ListN.{length}
use borrow.Author.Tests.{eqb-true, eq-eqb, ne_eqb}
use Rattle.bits.specs.Bits.{bit, when◌then◌else◌}
use Rattle.rules.specs.Codes.{code, code1, offered}
use Rattle.rules.specs.Encoding.{lifted, encoded, written}
use Rattle.answers.specs.Calls.{refusal, unless, six_set_of, Encoded, refused_encode, encoded_from, encode_answer, refused_check_of}
use Rattle.answers.specs.Calls.{checked_from}
use Rattle.answers.specs.Calls.{check_answer, Opened, refused_open, opened_from, open_answer, Corrected, refused_correct_of, ran_from}
use Rattle.answers.specs.Calls.{correct_answer, Stepped, refused_step_of, stepped_from, step_answer}

-- ---- refused, or taken

module _ {A : Type 0} (refused : ℕ → A) (taken : A) where
  pub unless_refused : (k : ℕ) → (k ≡ 0 → ⊥) → unless k refused taken ≡ refused k
  unless_refused k d = ap (λ b. when b then taken else refused k) (ne_eqb k 0 d)

  pub unless_taken : (k : ℕ) → k ≡ 0 → unless k refused taken ≡ taken
  unless_taken k e = ap (λ b. when b then taken else refused k) (eq-eqb k 0 e)

-- the test of the code and those of the lengths
abbrev step_by : Bool → Bool → Bool → ℕ
step_by a b d = when not a then 1 else when not b then 2 else when not d then 3 else 0

module _ (b : Bool) (input long output room : ℕ) where
  pub refusal_not : T b → input ≡ long → output ≡ room → refusal b input long output room ≡ 0
  refusal_not t e f = go b t ∙ ap₂ (λ p q. step_by true p q) (eq-eqb input long e) (eq-eqb output room f)
    where
      go : (b : Bool) → T b → step_by b (eqb input long) (eqb output room) ≡ step_by true (eqb input long) (eqb output room)
      go true t = refl
      go false t = absurd t

  pub record Right : Type 0 where
    pub offers : T b
    pub long_is : input ≡ long
    pub room_is : output ≡ room

  -- what is refused is refused by 1, 2 or 3
  pub refusal_cases : (P : ℕ → Type 0) → P 1 → P 2 → P 3 → (Right → P 0) → P (refusal b input long output room)
  refusal_cases P p1 p2 p3 p0 = go b (eqb input long) (eqb output room) refl refl refl
    where
      go : (x y z : Bool) → b ≡ x → eqb input long ≡ y → eqb output room ≡ z → P (refusal b input long output room)
      go false y z e f g = subst (λ k. P (step_by k (eqb input long) (eqb output room))) (sym e) p1
      go true false z e f g = subst (λ k. P (step_by k (eqb input long) (eqb output room))) (sym e)
          (subst (λ k. P (step_by true k (eqb output room))) (sym f) p2)
      go true true false e f g = subst P (sym (ap (λ k. step_by k (eqb input long) (eqb output room)) e ∙ ap₂ (step_by true) f g)) p3
      go true true true e f g =
          subst P (sym (ap (λ k. step_by k (eqb input long) (eqb output room)) e ∙ ap₂ (step_by true) f g))
          (p0 (record { offers = subst T (sym e) tt; long_is = eqb-true input long f; room_is = eqb-true output room g }))

  pub refusal_right : refusal b input long output room ≡ 0 → Right
  refusal_right = refusal_cases (λ k. k ≡ 0 → Right) (λ e. absurd (omega (arith, e))) (λ e. absurd (omega (arith, e)))
      (λ e. absurd (omega (arith, e))) (λ r e. r)

  -- an answer by the refusals, or by what is taken
  pub unless_cases : {A : Type 0} (P : A → Type 0) (refused : ℕ → A) (taken : A) → P (refused 1) → P (refused 2) → P (refused 3)
      → (T b → input ≡ long → output ≡ room → P taken) → P (unless (refusal b input long output room) refused taken)
  unless_cases P refused taken p1 p2 p3 p = refusal_cases (λ k. P (unless k refused taken)) p1 p2 p3
      (λ r. p r.offers r.long_is r.room_is)

-- a refusal depends on the lengths wanted only where the code is offered
pub refusal_as : {a b : Bool} (input output : ℕ) {long long' room room' : ℕ} → a ≡ b → (b ≡ true → long ≡ long') → (b ≡ true → room ≡ room')
    → refusal a input long output room ≡ refusal b input long' output room'
refusal_as {a} {b} input output {long} {long'} {room} {room'} e f g = ap (λ z. refusal z input long output room) e ∙ go b f g
  where
    go : (b : Bool) → (b ≡ true → long ≡ long') → (b ≡ true → room ≡ room')
        → refusal b input long output room ≡ refusal b input long' output room'
    go true f g = ap₂ (λ l r. refusal true input l output r) (f refl) (g refl)
    go false f g = refl

-- ---- correct

-- an input of another length is number 2, whatever the output
pub short_input : (correct_answer 1 [] 0 []).number ≡ 2
unfolding correct_answer code code1
short_input = refl

module _ (n : ℕ) (word : List ℕ) (limit : ℕ) (out : List ℕ) where
  pub correct_cases : (P : Corrected → Type 0) → P (refused_correct_of out 1) → P (refused_correct_of out 2) → P (refused_correct_of out 3)
      → (T (offered n) → length word ≡ (code n).octets_of_word → length out ≡ (code n).octets_of_word → P (ran_from n word limit out))
      → P (correct_answer n word limit out)
  unfolding correct_answer
  correct_cases P = unless_cases (offered n) (length word) (code n).octets_of_word (length out) (code n).octets_of_word P
      (refused_correct_of out)
      (ran_from n word limit out)

  pub correct_taken : T (offered n) → length word ≡ (code n).octets_of_word → length out ≡ (code n).octets_of_word
      → correct_answer n word limit out ≡ ran_from n word limit out
  unfolding correct_answer
  correct_taken t lw lo =
      unless_taken (refused_correct_of out) (ran_from n word limit out)
      (refusal (offered n) (length word) (code n).octets_of_word (length out)
      (code n).octets_of_word)
      (refusal_not (offered n) (length word) (code n).octets_of_word (length out) (code n).octets_of_word t lw lo)

  pub correct_refused : (k : ℕ) → k ≡ refusal (offered n) (length word) (code n).octets_of_word (length out) (code n).octets_of_word
      → (k ≡ 0 → ⊥)
      → correct_answer n word limit out ≡ refused_correct_of out k
  unfolding correct_answer
  correct_refused k e d = ap (λ z. unless z (refused_correct_of out) (ran_from n word limit out)) (sym e)
      ∙ unless_refused (refused_correct_of out) (ran_from n word limit out) k d

-- ---- step

module _ (n : ℕ) (word out : List ℕ) where
  pub step_cases : (P : Stepped → Type 0) → P (refused_step_of out 1) → P (refused_step_of out 2) → P (refused_step_of out 3)
      → (T (offered n && not (eqb n 5)) → length word ≡ (code n).octets_of_word → length out ≡ (code n).octets_of_word
      → P (stepped_from n word out))
      → P (step_answer n word out)
  unfolding step_answer
  step_cases P = unless_cases (offered n && not (eqb n 5)) (length word) (code n).octets_of_word (length out) (code n).octets_of_word P
      (refused_step_of out) (stepped_from n word out)

  pub step_taken : T (offered n && not (eqb n 5)) → length word ≡ (code n).octets_of_word → length out ≡ (code n).octets_of_word
      → step_answer n word out ≡ stepped_from n word out
  unfolding step_answer
  step_taken t lw lo =
      unless_taken (refused_step_of out) (stepped_from n word out)
      (refusal (offered n && not (eqb n 5)) (length word) (code n).octets_of_word
      (length out) (code n).octets_of_word)
      (refusal_not (offered n && not (eqb n 5)) (length word) (code n).octets_of_word (length out) (code n).octets_of_word t lw lo)

  pub step_refused : (k : ℕ) → k ≡ refusal (offered n && not (eqb n 5)) (length word) (code n).octets_of_word (length out)
      (code n).octets_of_word → (k ≡ 0 → ⊥)
      → step_answer n word out ≡ refused_step_of out k
  unfolding step_answer
  step_refused k e d = ap (λ z. unless z (refused_step_of out) (stepped_from n word out)) (sym e)
      ∙ unless_refused (refused_step_of out) (stepped_from n word out) k d

-- ---- encode, check, open

module _ (n : ℕ) (information out : List ℕ) where
  pub encode_from : T (offered n) → length information ≡ (code n).octets_of_information → length out ≡ (code n).octets_of_word
      → encode_answer n information out ≡ encoded_from n information out
  unfolding encode_answer
  encode_from t li lo =
      unless_taken (refused_encode out) (encoded_from n information out)
      (refusal (offered n) (length information) (code n).octets_of_information (length out) (code n).octets_of_word)
      (refusal_not (offered n) (length information) (code n).octets_of_information (length out) (code n).octets_of_word t li lo)

  pub encode_taken : T (offered n) → length information ≡ (code n).octets_of_information → length out ≡ (code n).octets_of_word
      → six_set_of n information ≡ false
      → encode_answer n information out ≡ record {
        number = 0;
        out = written (code n) (encoded (code n) (lifted (code n) (bit information)));
      }
  encode_taken t li lo six =
      encode_from t li lo
      ∙ ap (λ b. when b then refused_encode out 4 else record {
        number = 0;
        out = written (code n) (encoded (code n) (lifted (code n) (bit information)));
      }) six

  pub encode_four : T (offered n) → length information ≡ (code n).octets_of_information → length out ≡ (code n).octets_of_word
      → six_set_of n information ≡ true
      → encode_answer n information out ≡ refused_encode out 4
  encode_four t li lo six =
      encode_from t li lo
      ∙ ap (λ b. when b then refused_encode out 4 else record {
        number = 0;
        out = written (code n) (encoded (code n) (lifted (code n) (bit information)));
      }) six

  pub encode_refused : (k : ℕ)
      → k ≡ refusal (offered n) (length information) (code n).octets_of_information (length out) (code n).octets_of_word
      → (k ≡ 0 → ⊥)
      → encode_answer n information out ≡ refused_encode out k
  unfolding encode_answer
  encode_refused k e d = ap (λ z. unless z (refused_encode out) (encoded_from n information out)) (sym e)
      ∙ unless_refused (refused_encode out) (encoded_from n information out) k d

  -- an encoding that is not refused is that of its information
  pub encode_cases : (P : Encoded → Type 0) → ((k : ℕ) → P (record { number = suc k; out = out }))
      → (T (offered n) → length information ≡ (code n).octets_of_information → length out ≡ (code n).octets_of_word
      → six_set_of n information ≡ false
      → P (record { number = 0; out = written (code n) (encoded (code n) (lifted (code n) (bit information))) }))
      → P (encode_answer n information out)
  unfolding encode_answer
  encode_cases P p taken =
      unless_cases (offered n) (length information) (code n).octets_of_information (length out) (code n).octets_of_word P
      (refused_encode out)
      (encoded_from n information out)
      (p 0) (p 1) (p 2) (λ t li lo. go (six_set_of n information) refl t li lo)
    where
      done : Encoded
      done = record { number = 0; out = written (code n) (encoded (code n) (lifted (code n) (bit information))) }

      go : (b : Bool) → six_set_of n information ≡ b → T (offered n) → length information ≡ (code n).octets_of_information
          → length out ≡ (code n).octets_of_word → P (encoded_from n information out)
      go true e t li lo = subst (λ b. P (when b then refused_encode out 4 else done)) (sym e) (p 3)
      go false e t li lo = subst (λ b. P (when b then refused_encode out 4 else done)) (sym e) (taken t li lo e)

module _ (n : ℕ) (word : List ℕ) where
  pub check_taken : T (offered n) → length word ≡ (code n).octets_of_word → check_answer n word ≡ checked_from n word
  unfolding check_answer
  check_taken t lw =
      unless_taken refused_check_of (checked_from n word) (refusal (offered n) (length word) (code n).octets_of_word 0 0)
      (refusal_not (offered n) (length word) (code n).octets_of_word 0 0 t lw refl)

  pub check_refused : (k : ℕ) → k ≡ refusal (offered n) (length word) (code n).octets_of_word 0 0 → (k ≡ 0 → ⊥)
      → check_answer n word ≡ refused_check_of k
  unfolding check_answer
  check_refused k e d = ap (λ z. unless z refused_check_of (checked_from n word)) (sym e)
      ∙ unless_refused refused_check_of (checked_from n word) k d

  -- an open by the refusals, or by what is wrong with the word
  pub open_cases : (P : Opened → Type 0) → P (refused_open 1) → P (refused_open 2) → P (refused_open 3)
      → (T (offered n && not (eqb n 4)) → length word ≡ (code n).octets_of_word → P (opened_from n word)) → P (open_answer n word)
  unfolding open_answer
  open_cases P p1 p2 p3 p =
      unless_cases (offered n && not (eqb n 4)) (length word) (code n).octets_of_word 0 0 P refused_open (opened_from n word) p1 p2 p3
      (λ t lw lo. p t lw)

  pub open-from : T (offered n && not (eqb n 4)) → length word ≡ (code n).octets_of_word → open_answer n word ≡ opened_from n word
  unfolding open_answer
  open-from t lw =
      unless_taken refused_open (opened_from n word) (refusal (offered n && not (eqb n 4)) (length word) (code n).octets_of_word 0 0)
      (refusal_not (offered n && not (eqb n 4)) (length word) (code n).octets_of_word 0 0 t lw refl)

  pub open_refused : (k : ℕ) → k ≡ refusal (offered n && not (eqb n 4)) (length word) (code n).octets_of_word 0 0 → (k ≡ 0 → ⊥)
      → open_answer n word ≡ refused_open k
  unfolding open_answer
  open_refused k e d = ap (λ z. unless z refused_open (opened_from n word)) (sym e) ∙ unless_refused refused_open (opened_from n word) k d
