-- The demands, over the calls' answers: for every code number, every length and every content.
use mathlib.Core.Path.{◌≡◌, refl, sym, ap, ◌∙◌}
use mathlib.Core.Bool.{false}
use mathlib.Core.List.{List}
use Prim.Native.Nat.{ℕ}
use native.Mathlib.Omega.{arith}
use lib.Dec.{T}
use lib.ListN.{length, take, length-take}
use Rattle.bits.specs.Bits.{bit}
use Rattle.rules.specs.Codes.{code, checks, offered, telecommanded}
use Rattle.rules.specs.Encoding.{encoded, lifted, sent, written}
use Rattle.answers.specs.Calls.{six_set_of, encode_answer, check_answer}
use Rattle.bits.proofs.Octets.{Octets, length_octets}
use Rattle.rules.proofs.Published.{Published}
use Rattle.rules.proofs.Codewords.{codeword_quiet, codeword_encoded, encoded_codeword}
use Rattle.answers.proofs.Opening.{quiet_checked}
use Rattle.answers.proofs.Answers.{encode_taken, encode_cases, check_taken}
use Rattle.rules.proofs.Numbers.{published, telecommand_offered, met_codeword, three}

-- ---- demand 2: every encoded word meets every check

pub encoded_word_meets : (n : ℕ) (info out : List ℕ) → (encode_answer n info out).number ≡ 0
    → check_answer n (encode_answer n info out).out ≡ record { number = 0; broken = 0; lowest = checks (code n) }
encoded_word_meets n info out =
    encode_cases n info out (λ r. r.number ≡ 0 → check_answer n r.out ≡ record { number = 0; broken = 0; lowest = checks (code n) })
    (λ k e. absurd (omega arith)) (λ t li lo six e.
    let word : List ℕ = written (code n) (encoded (code n) (lifted (code n) (bit info))) in
    check_taken n word t (length_octets (code n).octets_of_word (sent (code n) (encoded (code n) (lifted (code n) (bit info)))))
    ∙ quiet_checked n word (codeword_quiet (code n) (published n t) (bit word) (encoded_codeword (code n) (published n t) (bit info))))

-- ---- demand 2: the telecommand codes

not_six : (n : ℕ) → T (telecommanded n) → (info : List ℕ) → six_set_of n info ≡ false
not_six = three (λ n. (info : List ℕ) → six_set_of n info ≡ false) (λ info. refl) (λ info. refl) (λ info. refl)

pub met_is_encoding : (n : ℕ) → T (telecommanded n) → (word out : List ℕ) → Octets word → length word ≡ (code n).octets_of_word
    → length out ≡ (code n).octets_of_word
    → (check_answer n word).broken ≡ 0 → encode_answer n (take (code n).octets_of_information word) out ≡ record { number = 0; out = word }
met_is_encoding n t word out oct lw lo e =
    let off : T (offered n) = telecommand_offered n t in
    let pb : Published (code n) = published n off in
    let front : length (take (code n).octets_of_information word) ≡ (code n).octets_of_information =
    omega (arith, length-take (code n).octets_of_information word, lw, pb.held) in
    encode_taken n (take (code n).octets_of_information word) out off front lo (not_six n t (take (code n).octets_of_information word))
    ∙ ap (λ z. record { number = 0; out = z }) (codeword_encoded (code n) pb word lw oct
    (met_codeword n t word lw (sym (ap (λ r. r.broken) (check_taken n word off lw)) ∙ e)))
