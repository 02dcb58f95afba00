-- The laws of addresses of memory: what LOAD [yz] and STORE reach is a word of memory, and so is every address that the type `Address` holds. The second one
-- alone, in all crates, takes that from how wide an address is.
-- Assumes nothing.
use Rattle.std.proofs.Common.{ℕ, ◌<◌, arith, w8, Fits}
use Rattle.isa.specs.Sizes.{memory_words}
use Rattle.control.specs.Address.{reached_address}

pub reached-below : (w : ℕ) → reached_address w < memory_words
reached-below w = omega arith

pub of_memory : {a : ℕ} → Fits w8 a → a < memory_words
of_memory f = f.fits
