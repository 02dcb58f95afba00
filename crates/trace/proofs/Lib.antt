-- The laws by subject: `Lists` of `member` and `distinct`, `Checks` of the tests of the live texts and addresses, `Rings` of the trace's slots, `Places` of the touched addresses' array, `Writes` of the registers, and `Logs` of the records of an instruction. What the slots say of the live records and addresses are `pushed-live` and `touched-live`.
pub mod Lists
pub mod Checks
pub mod Rings
pub mod Places
pub mod Writes
pub mod Logs
