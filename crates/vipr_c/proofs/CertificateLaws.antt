-- The number and the line that are returned for a certificate say what was answered.
-- Assumes nothing.
use mathlib.Core.Path.{◌≡◌, refl, sym, ap, ◌∙◌}
use mathlib.Core.List.{List}
use mathlib.Core.Logic.{◌↔◌}
use Prim.Native.Nat.{ℕ, ◌≤◌, ◌<◌}
use native.Mathlib.Omega.{arith}
use lib.IntN.{ℤ}
use lib.ListN.{length}
use Rattle.std.specs.Prelude.{⊤, Result, Ok, Err, IfErr}
use Rattle.text.specs.Bytes.{Bytes}
use Rattle.tables.specs.Limits.{most_bytes}
use Rattle.grammar.specs.Texts.{ReadText, taken, refused}
use Rattle.grammar.specs.Refusals.{refusal_number}
use Rattle.grammar.specs.declared.Refusal.{Refusal}
use Rattle.grammar.specs.declared.Refused.{Refused}
use Rattle.grammar.specs.declared.Refusal.TheVariants.{TableTooSmall, TextTooLong, TokenMissing, WrongKind, OutOfRange, UsedBefore, ValueTooWide, TokenLeft, SolutionFails, ClaimNotReached, RowSpent, ResultTooWide, MultipliersNotSuitable, CannotBeRounded, NoDomination, NoProperSplit, ClaimNotProved, NoSolutionListed}
use Rattle.rules.specs.Result as rules
use Rattle.rules.specs.Check.{check_of}
use Rattle.reader.specs.Promise as reading
use Rattle.reader.specs.Promise.{Course, begun, course_of, CertificateRead}
use Rattle.tables.specs.declared.Header.{Header}
use Rattle.checker.specs.Promise as checking
use Rattle.checker.specs.Promise.{CertificateVerified}
use Rattle.vipr_c.specs.Certificates.{Reply, reply, reply_to, read_reply, verify_reply, CertificateReturned, VerificationReturned}
use Rattle.vipr_c.proofs.Courses.{line_bound, line_small, returned_exactly}

-- ---- 0 is no reason

number_positive : (r : Refusal) → 0 < refusal_number r
number_positive TableTooSmall = omega arith
number_positive TextTooLong = omega arith
number_positive TokenMissing = omega arith
number_positive WrongKind = omega arith
number_positive OutOfRange = omega arith
number_positive UsedBefore = omega arith
number_positive ValueTooWide = omega arith
number_positive TokenLeft = omega arith
number_positive SolutionFails = omega arith
number_positive ClaimNotReached = omega arith
number_positive RowSpent = omega arith
number_positive ResultTooWide = omega arith
number_positive MultipliersNotSuitable = omega arith
number_positive CannotBeRounded = omega arith
number_positive NoDomination = omega arith
number_positive NoProperSplit = omega arith
number_positive ClaimNotProved = omega arith
number_positive NoSolutionListed = omega arith

not-zero : {X : Type 0} (r : Refusal) → refusal_number r ≡ 0 → X
not-zero r z = absurd (omega (arith, number_positive r))

-- ---- reading

read_replied : (r : Result Header Refused) → reply_to r ≡ read_reply (reading.reading_says r)
read_replied (Ok header) = refl
read_replied (Err refusal) = refl

abbrev read_course : Bytes → Course → Reply
read_course text c = read_reply (reading.answer_of text c)

taken_zero : (r : Result Header Refused) → ((reply_to r).status ≡ 0) ↔ ((header : Header) × (r ≡ Ok header))
taken_zero (Ok header) = (λ z. (header, refl), λ p. refl)
taken_zero (Err refusal) = (λ z. not-zero refusal.reason z, λ p. let t : Err refusal ≡ Ok p.0 = p.1 in cc)

read_lines : (text : Bytes) (read : ReadText) → length text ≤ most_bytes → (read_course text (begun read)).line ≤ 32769
read_lines text (taken tree) h = omega arith
read_lines text (refused reason place) h = line_bound text place h

module _ {text : Bytes} {index : List ℕ} {values : List ℤ} {rows : List ℕ} {index' : List ℕ} {values' : List ℤ} {rows' : List ℕ} {r : Result Header Refused} (h : CertificateRead text index values rows index' values' rows' r) where
  read_answer : reply_to r ≡ read_course text (course_of text (length index) (length values) (length rows))
  read_answer = read_replied r ∙ ap read_reply h.answer

  pub read-line : IfErr r (λ refusal. refusal.line ≤ 32769)
  read-line = line_small text index values rows (read_course text) (λ n. refl) r read_answer (read_lines text)

  pub read_returned : {returned line : ℕ} → reply returned line ≡ reply_to r → CertificateReturned text index values rows index' values' rows' returned line
  read_returned q =
      record {
        answer = q ∙ read_answer;
        tables = h.tables;
        taken_exactly = returned_exactly (reply_to r) q (taken_zero r) h.taken_exactly;
        spelled_once = h.spelled_once;
        held = h.held;
      }

-- ---- verifying

verify_replied : (r : Result ⊤ Refused) → reply_to r ≡ verify_reply (checking.verification_says r)
verify_replied (Ok u) = refl
verify_replied (Err refusal) = refl

abbrev verify_course : Bytes → Course → Reply
verify_course text c = verify_reply (checking.answer_of text c)

verified_zero : (r : Result ⊤ Refused) → ((reply_to r).status ≡ 0) ↔ (r ≡ Ok tt)
verified_zero (Ok u) = (λ z. refl, λ p. refl)
verified_zero (Err refusal) = (λ z. not-zero refusal.reason z, λ p. cc)

checked_lines : (text : Bytes) (v : rules.Verdict) → length text ≤ most_bytes → (verify_reply (checking.checked_says text v)).line ≤ 32769
checked_lines text (rules.done u) h = omega arith
checked_lines text (rules.refused reason place) h = line_bound text place h

verify_lines : (text : Bytes) (read : ReadText) → length text ≤ most_bytes → (verify_course text (begun read)).line ≤ 32769
verify_lines text (taken tree) h = checked_lines text (check_of tree) h
verify_lines text (refused reason place) h = line_bound text place h

module _ {text : Bytes} {index : List ℕ} {values : List ℤ} {rows : List ℕ} {index' : List ℕ} {values' : List ℤ} {rows' : List ℕ} {r : Result ⊤ Refused} (h : CertificateVerified text index values rows index' values' rows' r) where
  verify_answer : reply_to r ≡ verify_course text (course_of text (length index) (length values) (length rows))
  verify_answer = verify_replied r ∙ ap verify_reply h.answer

  pub verify_line : IfErr r (λ refusal. refusal.line ≤ 32769)
  verify_line = line_small text index values rows (verify_course text) (λ n. refl) r verify_answer (verify_lines text)

  pub verify_returned : {returned line : ℕ} → reply returned line ≡ reply_to r → VerificationReturned text index values rows index' values' rows' returned line
  verify_returned q =
      record {
        answer = q ∙ verify_answer;
        tables = h.tables;
        verified_exactly = returned_exactly (reply_to r) q (verified_zero r) h.verified_exactly;
        verified_means = λ z. h.verified_means ((verified_zero r).0 (sym (ap (λ (x : Reply). x.status) q) ∙ z));
      }
