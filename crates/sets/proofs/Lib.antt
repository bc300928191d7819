-- Laws that the proofs of the sets' functions cite: what each operator does to a bit.
mod Bits
