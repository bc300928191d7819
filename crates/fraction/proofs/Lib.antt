-- Laws over plain values that the functions' proofs cite.
mod Promised
mod Divided
mod Tested
