-- Laws that the proofs of the functions for C cite: what is returned says what was answered, lines, courses of a reading.
mod ValueLaws
mod ShownLaws
mod Lines
mod Courses
mod CertificateLaws
