-- Numbers and lines as text.
use mathlib.Core.Path.{◌≡◌, refl, sym, ap, ap₂, ◌∙◌}
use mathlib.Core.Bool.{Bool, true, false}
use mathlib.Core.List.{List, [], ◌∷◌, ◌++◌, append-nil, append_assoc}
use Prim.Native.Nat.{ℕ, zero, suc, ◌+◌, ◌/◌, ◌%◌, ◌^◌, ◌≤◌, ◌<◌}
use native.Mathlib.Nat.{pow-suc, div-lt_iff_lt-mul}
use native.Mathlib.Numerals.{add-one}
use native.Mathlib.Omega.{arith}
use lib.Dec.{ltb, eqb}
use lib.ListN.{length, get_or, take, set, length-append}
use lib.Seq.{take-suc, take-suc-set}
use borrow.Author.Tests.{ltb-true, ltb-false, lt-ltb, le-ltb}
use Rattle.bits.specs.Bits.{when◌then◌else◌}
use Rattle.rules.specs.Codes.{code, offered}
use Rattle.answers.specs.Calls.{refusal, unless, Corrected, refused_correct_of, ran_correct, ran_from, correct_answer}
use Rattle.wordlog.specs.line.Line.{digits, decimal, fields, numbers, line}

-- ---- the digits of a number

-- one digit, or those of a tenth and one more
abbrev spelled : ℕ → List ℕ → List ℕ
spelled n front = when ltb n 10 then ((48 + n) ∷ []) else front ++ ((48 + n % 10) ∷ [])

spelled_same : (n : ℕ) (a b : List ℕ) → (10 ≤ n → a ≡ b) → spelled n a ≡ spelled n b
spelled_same n a b f = go (ltb n 10) refl
  where
    go : (t : Bool) → ltb n 10 ≡ t → (when t then ((48 + n) ∷ []) else a ++ ((48 + n % 10) ∷ []))
        ≡ (when t then ((48 + n) ∷ []) else b ++ ((48 + n % 10) ∷ []))
    go true e = refl
    go false e = ap (λ (l : List ℕ). l ++ ((48 + n % 10) ∷ [])) (f (ltb-false n 10 e))

digits_enough : (m k n : ℕ) → n ≤ m → n ≤ k → digits m n ≡ digits k n
unfolding digits
digits_enough zero zero n a b = refl
digits_enough zero (suc k) zero a b = refl
digits_enough zero (suc k) (suc n) a b = absurd (omega arith)
digits_enough (suc m) zero zero a b = refl
digits_enough (suc m) zero (suc n) a b = absurd (omega arith)
digits_enough (suc m) (suc k) n a b = spelled_same n (digits m (n / 10)) (digits k (n / 10))
    (λ h. digits_enough m k (n / 10) (omega arith) (omega arith))

pub decimal_digit : (n : ℕ) → n < 10 → decimal n ≡ (48 + n) ∷ []
unfolding digits
decimal_digit zero h = refl
decimal_digit (suc n) h = rw (lt-ltb (suc n) 10 h)

pub decimal_more : (n : ℕ) → 10 ≤ n → decimal n ≡ decimal (n / 10) ++ ((48 + n % 10) ∷ [])
unfolding digits
decimal_more zero h = absurd (omega arith)
decimal_more (suc n) h =
    spelled_same (suc n) (digits n (suc n / 10)) (decimal (suc n / 10))
    (λ l. digits_enough n (suc n / 10) (suc n / 10) (omega arith) (omega arith))
    ∙ rw (le-ltb (suc n) 10 h)

pub digit_long : (n : ℕ) → n < 10 → length (decimal n) ≡ 1
digit_long n h = ap length (decimal_digit n h)

pub more_long : (n : ℕ) → 10 ≤ n → length (decimal n) ≡ length (decimal (n / 10)) + 1
more_long n h = ap length (decimal_more n h) ∙ length-append (decimal (n / 10)) ((48 + n % 10) ∷ [])

decimal_longer : (k n : ℕ) → (10 ≤ n → length (decimal (n / 10)) ≤ k) → length (decimal n) ≤ suc k
decimal_longer k n f = go (ltb n 10) refl
  where
    go : (t : Bool) → ltb n 10 ≡ t → length (decimal n) ≤ suc k
    go true e = omega (arith, digit_long n (ltb-true n 10 e))
    go false e =
        let h = ltb-false n 10 e in
        omega (arith, f h, more_long n h)

-- as many digits as the power of ten that lies above
pub decimal_long : (k n : ℕ) → n < 10 ^ suc k → length (decimal n) ≤ suc k
decimal_long zero n h = decimal_longer 0 n (λ l. absurd (omega arith))
decimal_long (suc k) n h = decimal_longer (suc k) n (λ l. decimal_long k (n / 10) ((div-lt_iff_lt-mul (omega arith)).1 (rw pow-suc at h)))

pub long8 : (n : ℕ) → n < 2 ^ 8 → length (decimal n) ≤ 3
long8 n h = decimal_long 2 n (omega arith)

pub long32 : (n : ℕ) → n < 2 ^ 32 → length (decimal n) ≤ 10
long32 n h = decimal_long 9 n (omega arith)

pub long64 : (n : ℕ) → n < 2 ^ 64 → length (decimal n) ≤ 20
long64 n h = decimal_long 19 n (omega arith)

-- ---- text behind text

pub one_more : (t p x : List ℕ) (end v : ℕ) → end < length t → take end t ≡ p ++ x → take (end + 1) (set t end v) ≡ p ++ (x ++ (v ∷ []))
one_more t p x end v h e = rw add-one (take-suc-set t end v h ∙ ap (λ (l : List ℕ). l ++ (v ∷ [])) e ∙ append_assoc p x (v ∷ []))

-- an octet, and what is put behind it
pub one_before : (t u x : List ℕ) (at r v : ℕ) → at < length t → take r u ≡ take (at + 1) (set t at v) ++ x
    → take r u ≡ take at t ++ (v ∷ x)
one_before t u x at r v h e =
    let f : take (at + 1) (set t at v) ≡ take at t ++ (v ∷ []) = rw add-one (take-suc-set t at v h) in
    e ∙ ap (λ (l : List ℕ). l ++ x) f ∙ append_assoc (take at t) (v ∷ []) x

-- one octet more of a text
pub text-more : (t p s : List ℕ) (end k : ℕ) → end < length t → k < length s → take end t ≡ p ++ take k s
    → take (end + 1) (set t end (get_or s k 0)) ≡ p ++ take (k + 1) s
text-more t p s end k h l e =
    let f : take k s ++ (get_or s k 0 ∷ []) ≡ take (k + 1) s = rw add-one (sym (take-suc s k 0 l)) in
    one_more t p (take k s) end (get_or s k 0) h e ∙ ap (λ (x : List ℕ). p ++ x) f

-- ---- a line

-- one number more
pub fields-more : (ns : List ℕ) (n : ℕ) → fields (ns ++ (n ∷ [])) ≡ fields ns ++ (32 ∷ decimal n)
unfolding fields
fields-more [] n = ap (λ (l : List ℕ). 32 ∷ l) (append-nil (decimal n))
fields-more (m ∷ ns) n = ap (λ (l : List ℕ). 32 ∷ l) (ap (λ (l : List ℕ). decimal m ++ l) (fields-more ns n)
    ∙ sym (append_assoc (decimal m) (fields ns) (32 ∷ decimal n)))

pub fields_next : (ns p t u : List ℕ) (k : ℕ) → k < length ns → t ≡ u ++ (32 ∷ decimal (get_or ns k 0)) → u ≡ p ++ fields (take k ns)
    → t ≡ p ++ fields (take (k + 1) ns)
fields_next ns p t u k h e f =
    let g : take k ns ++ (get_or ns k 0 ∷ []) ≡ take (k + 1) ns = rw add-one (sym (take-suc ns k 0 h)) in
    e
    ∙ ap (λ (l : List ℕ). l ++ (32 ∷ decimal (get_or ns k 0))) f
    ∙ append_assoc p (fields (take k ns)) (32 ∷ decimal (get_or ns k 0))
    ∙ ap (λ (l : List ℕ). p ++ l) (sym (fields-more (take k ns) (get_or ns k 0)) ∙ ap fields g)

-- a number, and those behind it
pub both : {m n : ℕ} {ms ns : List ℕ} → m ≡ n → ms ≡ ns → m ∷ ms ≡ n ∷ ns
both e f = ap₂ (λ (n : ℕ) (ns : List ℕ). n ∷ ns) e f

-- index, numbers, the end of the line
pub line_whole : {ns : List ℕ} (p t u : List ℕ) (i end : ℕ) (a : Corrected) → end < length t → take end t ≡ u ++ fields ns
    → u ≡ p ++ decimal i → ns ≡ numbers a
    → take (end + 1) (set t end 10) ≡ p ++ line i a
unfolding line
line_whole {ns} p t u i end a h e f g =
    one_more t u (fields ns) end 10 h e
    ∙ ap₂ (λ (x y : List ℕ). x ++ (fields y ++ (10 ∷ []))) f g
    ∙ append_assoc p (decimal i) (fields (numbers a) ++ (10 ∷ []))

-- a line does not show what the output was
pub same_line : (i n : ℕ) (word : List ℕ) (limit : ℕ) (out other : List ℕ) → length out ≡ length other
    → line i (correct_answer n word limit out) ≡ line i (correct_answer n word limit other)
unfolding line correct_answer ran_correct
same_line i n word limit out other e =
    ap (λ (long : ℕ). line i (answer (refusal (offered n) (length word) (code n).octets_of_word long (code n).octets_of_word) out)) e
    ∙ go (refusal (offered n) (length word) (code n).octets_of_word (length other) (code n).octets_of_word)
  where
    answer : ℕ → List ℕ → Corrected
    answer k o = unless k (refused_correct_of o) (ran_from n word limit o)

    go : (k : ℕ) → line i (answer k out) ≡ line i (answer k other)
    go k = by (eqb k 0)
      where
        by : (b : Bool) → line i (when b then ran_from n word limit out else refused_correct_of out k) ≡ line i
            (when b then ran_from n word limit other else refused_correct_of other k)
        by true = refl
        by false = refl
